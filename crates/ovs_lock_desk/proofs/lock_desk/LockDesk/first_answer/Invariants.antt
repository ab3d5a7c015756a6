use Rattle.std.proofs.Common.{◌≡◌}
use Rattle.ovs_locks.specs.ByName.{gathered}
use Rattle.ovs_lock_desk.specs.LockDesk.{answers_here, answers_to}
use Rattle.ovs_lock_desk.proofs.Telling.{marked}
use Rattle.ovs_lock_desk.proofs.lock_desk.LockDesk.first_answer.Given as goal

abbrev pub invariant-loop-name : goal.invariant-loop-name
invariant-loop-name l = gathered (marked (answers_here l.session) l.self.locks) l.name-iterator ≡ answers_to l.session l.self.locks
