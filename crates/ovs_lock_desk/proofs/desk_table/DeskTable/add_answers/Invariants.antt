use Rattle.std.proofs.Common.{◌≡◌, ◌++◌}
use Rattle.ovs_lock_desk.specs.LockDesk.{answers_told}
use Rattle.ovs_lock_desk.proofs.desk_table.DeskTable.add_answers.Given as goal

abbrev pub invariant-loop-name : goal.invariant-loop-name
invariant-loop-name l = l.owed.items ++ answers_told l.session l._name-iterator ≡ l.fn.owed.items ++ answers_told l.session l.self
