use Rattle.std.proofs.Common.{rules}
use Rattle.ovs_wire.proofs.message.id.Id.as_number.Goals as goal

pub returns : goal.returns
returns c = search rules
