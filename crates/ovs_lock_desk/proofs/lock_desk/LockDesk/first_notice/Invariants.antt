use Rattle.std.proofs.Common.{◌≡◌}
use Rattle.ovs_locks.specs.ByName.{gathered}
use Rattle.ovs_lock_desk.specs.LockDesk.{notices_here, notices_to}
use Rattle.ovs_lock_desk.proofs.Telling.{marked}
use Rattle.ovs_lock_desk.proofs.lock_desk.LockDesk.first_notice.Given as goal

abbrev pub invariant-loop-name : goal.invariant-loop-name
invariant-loop-name l = gathered (marked (notices_here l.session) l.self.locks) l.name-iterator ≡ notices_to l.session l.self.locks
