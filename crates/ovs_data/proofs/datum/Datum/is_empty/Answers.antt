use Rattle.std.proofs.Common.{rules}
use Rattle.ovs_data.proofs.datum.Datum.is_empty.Goals as goal

pub returns-in-empty : goal.returns-in-empty
returns-in-empty c = search rules
