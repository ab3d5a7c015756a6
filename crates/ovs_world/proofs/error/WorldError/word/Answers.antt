use Rattle.std.proofs.Common.{rules}
use Rattle.ovs_world.proofs.error.WorldError.word.Goals as goal

pub returns-in-Full : goal.returns-in-Full
returns-in-Full c = search rules
