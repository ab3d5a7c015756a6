use Rattle.std.proofs.Common.{◌≡◌, ◌∙◌, true, ap, subst, rules}
use Rattle.std.specs.Prelude.{slice_get}
use Rattle.std.specs.Cmp.Lexicographic.{slice_cmp}
use Rattle.std.specs.List.Sorted.{IsStrictlySortedBy}
use Rattle.std.specs.Ordering.{nat_cmp}
use Rattle.ovs_locks.specs.ByName.{Ascends}
use Rattle.ovs_lock_desk.specs.UpwardTable.{ListsDue}
use Rattle.ovs_lock_desk.proofs.DueUp.{due_of, due_tells}
use Rattle.ovs_lock_desk.proofs.upward_table.UpwardTable.due.Goals as goal

pub loop-name-init : goal.loop-name-init
loop-name-init c =
    let locks = c.args.self.now in
    let due = c.self.inside.due in
    let iter : c.into_iter-name-iterator.result ≡ c.names.result.now.keys = search rules in
    let whole : due.is_whole ≡ true = search rules in
    ap (λ names. slice_get (due_of locks names) 0) (iter ∙ c.names.ensures.value)
    ∙ due_tells locks due (subst Ascends c.self.view_is c.self.invariant.table.ascend) (subst (IsStrictlySortedBy (slice_cmp nat_cmp)) c.names.ensures.value c.iter-name-items.ensures.ordered)
    (subst (λ ls. ListsDue ls due) c.self.view_is c.self.invariant.listed) whole
