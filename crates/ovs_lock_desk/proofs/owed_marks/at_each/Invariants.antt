use Rattle.ovs_lock_desk.specs.LockDesk.{AreNamed, AreMarked}
use Rattle.ovs_lock_desk.specs.UpwardTable.{AreStolenByOne}
use Rattle.ovs_lock_desk.proofs.Stepping.{Stepping}
use Rattle.ovs_lock_desk.proofs.owed_marks.at_each.Given as goal

abbrev pub invariant-loop-name : goal.invariant-loop-name
invariant-loop-name l = Stepping l.event l.fn.table l.name-iterator l.table × AreStolenByOne l.table × AreNamed l.table l.sessions × AreMarked l.table l.sessions
