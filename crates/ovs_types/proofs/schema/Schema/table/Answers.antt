use Rattle.std.proofs.Common.{rules}
use Rattle.ovs_types.proofs.schema.Schema.table.Goals as goal

pub returns-clause-found : goal.returns-clause-found
returns-clause-found c = search rules

pub returns-clause-reserved : goal.returns-clause-reserved
returns-clause-reserved c = search rules
