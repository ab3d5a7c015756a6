use Rattle.std.proofs.Common.{subst}
use Rattle.ovs_lock_desk.specs.OwedMarks.{MarksLosers}
use Rattle.ovs_lock_desk.proofs.OwedMarks.{named_lost, marked_lost}
use Rattle.ovs_lock_desk.proofs.lock_desk.LockDesk.lost_source.Goals as goal

pub invariant_of-self : goal.invariant_of-self
invariant_of-self c =
    let old = c.self.inside.table in
    let sessions = c.self.inside.sessions in
    let losers = subst (λ locks. MarksLosers locks sessions c.mark_losers.new.sessions) c.locks.ensures.value c.mark_losers.ensures.marks in (
      c.lost.ensures.table,
      named_lost old c.lost.new.self sessions c.mark_losers.new.sessions c.self.invariant.0.ascend c.self.invariant.1 losers c.lost.ensures.after,
      marked_lost old c.lost.new.self sessions c.mark_losers.new.sessions c.self.invariant.0.ascend c.locks.ensures.by_one c.self.invariant.2 losers c.lost.ensures.after,
    )
