use Rattle.std.proofs.Common.{◌≡◌, List, ℕ, Some, sym, subst}
use Rattle.ovs_lock_desk.specs.LockState.{verb_due}
use Rattle.ovs_lock_desk.specs.LockDesk.{relay_lock_at}
use Rattle.ovs_lock_desk.proofs.DueUp.{first_due_at}
use Rattle.ovs_lock_desk.proofs.upward_table.UpwardTable.sent.Goals as goal

pub send-requires : goal.send-requires
send-requires c =
    let locks = c.if-not-is_whole.self in
    record {
      due =
          subst (λ (name : List ℕ). verb_due (relay_lock_at name locks).state ≡ Some c.in-Some.verb) (sym c.in_ok-name.ensures.equal)
          (first_due_at locks (c.in-Some.name.now, c.in-Some.verb) c.due.ensures.table.ascend (sym c.in-Some.ensures.value));
    }
