use Rattle.std.proofs.Common.{rules}
use Rattle.ovs_query.proofs.conditions.passes.Goals as goal

pub returns-in-Excludes : goal.returns-in-Excludes
returns-in-Excludes c = search rules
