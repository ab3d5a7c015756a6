use Rattle.std.proofs.Common.{rules}
use Rattle.ovs_wire.proofs.message.id.Id.into_value.Goals as goal

pub returns-clause-value : goal.returns-clause-value
returns-clause-value c = search rules
