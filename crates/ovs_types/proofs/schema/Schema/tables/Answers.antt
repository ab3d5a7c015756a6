use Rattle.std.proofs.Common.{rules}
use Rattle.ovs_types.proofs.schema.Schema.tables.Goals as goal

pub returns-clause-all : goal.returns-clause-all
returns-clause-all c = search rules
