use Rattle.std.proofs.lemmas.Grind.{common_steps}
use Rattle.std.proofs.Common.{arith}
use Rattle.ovs_world.proofs.sim_session.SimSession.pump.Goals as goal

pub returns-clause-pumps : goal.returns-clause-pumps
returns-clause-pumps c = grind (arith, common_steps)
