use Rattle.std.proofs.Common.{rules}
use Rattle.ovs_types.proofs.schema.Schema.copy.Goals as goal

pub invariant_of-result : goal.invariant_of-result
invariant_of-result c = search rules

pub returns-clause-equal : goal.returns-clause-equal
returns-clause-equal c = search rules
