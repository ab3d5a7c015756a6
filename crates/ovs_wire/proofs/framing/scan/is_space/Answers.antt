use Rattle.std.proofs.Common.{rules}
use Rattle.ovs_wire.proofs.framing.scan.is_space.Goals as goal

pub returns-in_default-2 : goal.returns-in_default-2
returns-in_default-2 c = search rules
