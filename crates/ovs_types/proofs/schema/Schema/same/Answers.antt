use Rattle.std.proofs.Common.{rules}
use Rattle.ovs_types.proofs.schema.Schema.same.Goals as goal

pub returns : goal.returns
returns c = search rules
