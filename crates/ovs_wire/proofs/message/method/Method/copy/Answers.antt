use Rattle.std.proofs.Common.{rules}
use Rattle.ovs_wire.proofs.message.method.Method.copy.Goals as goal

pub returns : goal.returns
returns c = search rules
