use Rattle.ovs_operations.proofs.Places.{all_at}
use Rattle.ovs_operations.proofs.theorems.each_row_once.Goals as goal

pub returns : goal.returns
returns c = record { rows = λ id before rows columns matches alteration table d e p. all_at id before columns matches alteration table rows d e p }
