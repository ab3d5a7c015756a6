use Rattle.std.proofs.Common.{rules}
use Rattle.ovs_wire.proofs.device.is_passing.Goals as goal

pub returns-in_default : goal.returns-in_default
returns-in_default c = search rules
