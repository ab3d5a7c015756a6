use Rattle.std.proofs.Common.{rules}
use Rattle.ovs_data.proofs.datum.pairs.PairSortedEntry.has_same.Goals as goal

pub returns : goal.returns
returns c = search rules
