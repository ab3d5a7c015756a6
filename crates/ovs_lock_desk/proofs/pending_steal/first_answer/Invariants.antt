use Rattle.std.proofs.Common.{◌≡◌, drop}
use Rattle.std.specs.Prelude.{filter}
use Rattle.ovs_lock_desk.specs.PendingSteal.{is_due_late}
use Rattle.ovs_lock_desk.proofs.pending_steal.first_answer.Given as goal

abbrev pub invariant-loop-one : goal.invariant-loop-one
invariant-loop-one l = filter (is_due_late l.session) (drop l.one-index l.late) ≡ filter (is_due_late l.session) l.late
