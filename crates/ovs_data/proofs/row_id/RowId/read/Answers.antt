use Rattle.std.proofs.Common.{rules}
use Rattle.ovs_data.proofs.row_id.RowId.read.Goals as goal

pub returns : goal.returns
returns c = search rules
