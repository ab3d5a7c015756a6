use Rattle.std.proofs.Common.{◌≡◌}
use Rattle.std.specs.Prelude.{slice_get}
use Rattle.ovs_lock_desk.specs.LockDesk.{first_due_up}
use Rattle.ovs_lock_desk.proofs.DueUp.{due_of}
use Rattle.ovs_lock_desk.proofs.upward_table.UpwardTable.due.Given as goal

abbrev pub invariant-loop-name : goal.invariant-loop-name
invariant-loop-name l = slice_get (due_of l.self l.name-iterator) 0 ≡ first_due_up l.self
