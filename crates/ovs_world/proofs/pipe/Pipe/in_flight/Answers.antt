use Rattle.std.proofs.lemmas.Grind.{common_steps}
use Rattle.std.proofs.Common.{arith}
use Rattle.ovs_world.proofs.pipe.Pipe.in_flight.Goals as goal

pub returns : goal.returns
returns c = grind (arith, common_steps)
