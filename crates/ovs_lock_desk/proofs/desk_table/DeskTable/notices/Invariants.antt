use Rattle.std.proofs.Common.{◌≡◌, ◌++◌}
use Rattle.ovs_lock_desk.specs.LockDesk.{notices_to}
use Rattle.ovs_lock_desk.proofs.desk_table.DeskTable.notices.Given as goal

abbrev pub invariant-loop-name : goal.invariant-loop-name
invariant-loop-name l = l.notices.items ++ notices_to l.session l.name-iterator ≡ notices_to l.session l.self
