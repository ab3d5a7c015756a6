use Rattle.std.proofs.Common.{◌≡◌}
use Rattle.ovs_lock_desk.specs.LockDesk.{first_due_up}
use Rattle.ovs_lock_desk.proofs.desk_table.DeskTable.due.Given as goal

abbrev pub invariant-loop-name : goal.invariant-loop-name
invariant-loop-name l = first_due_up l.name-iterator ≡ first_due_up l.self
