use Rattle.std.proofs.Common.{◌≡◌, length}
use Rattle.ovs_data.specs.Ascending.{ascends}
use Rattle.ovs_data.proofs.datum.sorting.ascends.Given as goal

abbrev pub invariant-loop-rest : goal.invariant-loop-rest
invariant-loop-rest g l = ascends g.E.SortedEntry.order l.rest ≡ ascends g.E.SortedEntry.order l.entries

abbrev pub decreases-loop-rest : goal.decreases-loop-rest
decreases-loop-rest g l = length l.rest
