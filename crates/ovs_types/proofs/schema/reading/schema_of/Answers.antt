use Rattle.std.proofs.Common.{rules}
use Rattle.ovs_types.proofs.schema.reading.schema_of.Goals as goal

pub invariant_of-result : goal.invariant_of-result
invariant_of-result c = search rules

pub returns-clause-json : goal.returns-clause-json
returns-clause-json c = search rules
