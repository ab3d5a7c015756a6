use Rattle.std.proofs.Common.{subst}
use Rattle.ovs_locks.specs.BySession.{Remarks}
use Rattle.ovs_lock_desk.specs.LockDesk.{relay_lock_at}
use Rattle.ovs_lock_desk.specs.OwedMarks.{desk_mark}
use Rattle.ovs_lock_desk.specs.declared.lock_state.LockEvent.TheVariants as events
use Rattle.ovs_lock_desk.proofs.Names.{named_at}
use Rattle.ovs_lock_desk.proofs.OwedMarks.{marked_notice, named_remarked, marked_still}
use Rattle.ovs_lock_desk.proofs.lock_desk.LockDesk.notice_told.Goals as goal

pub invariant_of-self : goal.invariant_of-self
invariant_of-self c =
    let session = c.args.session in
    let name = c.args.name.now in
    let old = c.self.inside.table in
    let new = c.at.new.self in
    let sessions = c.self.inside.sessions in
    let marks = subst (λ locks. Remarks (λ x. desk_mark x (relay_lock_at name locks)) session name sessions c.remark.new.sessions) c.locks.ensures.value c.remark.ensures.marks in (
      c.at.ensures.table,
      named_remarked new name session sessions c.remark.new.sessions
          (named_at name (events.NoticeTold session) old new sessions c.self.invariant.0.ascend c.self.invariant.1 c.at.ensures.after) marks,
      marked_still new name session sessions c.remark.new.sessions
          (marked_notice session name old new sessions c.self.invariant.0.ascend c.self.invariant.2 c.at.ensures.after) marks,
    )
