use Rattle.std.proofs.Common.{rules}
use Rattle.ovs_wire.proofs.device.Counted.calls.Goals as goal

pub returns : goal.returns
returns c = search rules
