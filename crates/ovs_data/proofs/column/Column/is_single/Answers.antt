use Rattle.std.proofs.Common.{rules}
use Rattle.ovs_data.proofs.column.Column.is_single.Goals as goal

pub returns : goal.returns
returns c = search rules
