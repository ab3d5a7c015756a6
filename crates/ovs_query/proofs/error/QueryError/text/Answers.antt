use Rattle.std.proofs.Common.{rules}
use Rattle.ovs_query.proofs.error.QueryError.text.Goals as goal

pub returns-in-ManyRequests : goal.returns-in-ManyRequests
returns-in-ManyRequests c = search rules
