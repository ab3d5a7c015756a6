use Rattle.std.proofs.Common.{◌≡◌, ◌+◌, ◌++◌, length, drop}
use Rattle.std.specs.Prelude.{not, ◌&&◌}
use Rattle.ovs_data.proofs.Exchanges.{exchange}
use Rattle.ovs_data.proofs.datum.exchange.merged.Given as goal

-- what was put out, and what is still to come, are the whole
abbrev pub invariant-loop-left : goal.invariant-loop-left
invariant-loop-left g l =
    l.out.items ++ exchange g.E.SortedEntry.order (λ x y. not l.same_too && g.E.SortedEntry.is_same x y) l.left l.right ≡ exchange g.E.SortedEntry.order (λ x y. not l.same_too && g.E.SortedEntry.is_same x y) l.fn.old l.fn.other

abbrev pub decreases-loop-left : goal.decreases-loop-left
decreases-loop-left g l = length l.left + length l.right

abbrev pub invariant-loop-x : goal.invariant-loop-x
invariant-loop-x g l =
    l.out.items ++ (drop l.x-index l.x-items ++ l.right) ≡ exchange g.E.SortedEntry.order (λ x y. not l.same_too && g.E.SortedEntry.is_same x y) l.fn.old l.fn.other

abbrev pub invariant-loop-y : goal.invariant-loop-y
invariant-loop-y g l =
    l.out.items ++ drop l.y-index l.y-items ≡ exchange g.E.SortedEntry.order (λ x y. not l.same_too && g.E.SortedEntry.is_same x y) l.fn.old l.fn.other
