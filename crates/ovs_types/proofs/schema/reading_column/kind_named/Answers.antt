use Rattle.std.proofs.Common.{rules}
use Rattle.ovs_types.proofs.schema.reading_column.kind_named.Goals as goal

pub returns-then-eq-5 : goal.returns-then-eq-5
returns-then-eq-5 c = search rules
