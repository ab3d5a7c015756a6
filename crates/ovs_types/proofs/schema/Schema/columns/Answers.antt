use Rattle.std.proofs.Common.{rules}
use Rattle.ovs_types.proofs.schema.Schema.columns.Goals as goal

pub returns-clause-all : goal.returns-clause-all
returns-clause-all c = search rules

pub returns-clause-ascending : goal.returns-clause-ascending
returns-clause-ascending c = search rules
