use Rattle.std.proofs.Common.{rules}
use Rattle.ovs_data.proofs.datum.reading.read_set.Goals as goal

pub returns-then-may_count : goal.returns-then-may_count
returns-then-may_count c = search rules
