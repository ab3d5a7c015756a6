use Rattle.std.proofs.Common.{◌≡◌, ◌++◌, take, drop}
use Rattle.ovs_lock_desk.specs.PendingSteal.{is_due_late, without_one}
use Rattle.ovs_lock_desk.proofs.pending_steal.drop_answer.Given as goal

abbrev pub invariant-loop-at : goal.invariant-loop-at
invariant-loop-at l = record {
  same : l.late.items ≡ l.fn.late.items;
  so_far : take l.at l.fn.late.items ++ without_one (is_due_late l.session) (drop l.at l.fn.late.items) ≡ without_one (is_due_late l.session) l.fn.late.items;
}
