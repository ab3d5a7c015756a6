use Rattle.std.proofs.Common.{◌≡◌, ◌++◌, drop}
use Rattle.std.specs.Prelude.{map, filter}
use Rattle.ovs_lock_desk.specs.PendingSteal.{is_due_late}
use Rattle.ovs_lock_desk.specs.LockDesk.{told_of}
use Rattle.ovs_lock_desk.proofs.pending_steal.add_answers.Given as goal

abbrev pub invariant-loop-one : goal.invariant-loop-one
invariant-loop-one l =
    l.owed.items ++ map told_of (filter (is_due_late l.session) (drop l.one-index l.late)) ≡ l.fn.owed.items ++ map told_of (filter (is_due_late l.session) l.late)
