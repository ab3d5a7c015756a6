use Rattle.std.proofs.Common.{rules}
use Rattle.ovs_world.proofs.world.World.store.Goals as goal

pub returns-clause-some : goal.returns-clause-some
returns-clause-some c = search rules
