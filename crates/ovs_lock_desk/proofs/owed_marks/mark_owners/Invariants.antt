use Rattle.ovs_lock_desk.specs.LockDesk.{AreNamed}
use Rattle.ovs_lock_desk.specs.OwedMarks.{AreMarkedButOwners}
use Rattle.ovs_lock_desk.proofs.owed_marks.mark_owners.Given as goal

abbrev pub invariant-loop-name : goal.invariant-loop-name
invariant-loop-name l = AreNamed l.table l.sessions × AreMarkedButOwners l.name-iterator l.table l.sessions
