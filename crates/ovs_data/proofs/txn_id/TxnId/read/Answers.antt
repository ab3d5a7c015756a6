use Rattle.std.proofs.Common.{rules}
use Rattle.ovs_data.proofs.txn_id.TxnId.read.Goals as goal

pub returns : goal.returns
returns c = search rules
