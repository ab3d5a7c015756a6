use Rattle.std.proofs.Common.{rules}
use Rattle.ovs_query.proofs.reading.select.read_select.Goals as goal

pub returns-in-Err : goal.returns-in-Err
returns-in-Err c = search rules
