use Rattle.ovs_lock_desk.proofs.DueUp.{ListsBefore}
use Rattle.ovs_lock_desk.proofs.desk_table.DeskTable.list_due.Given as goal

abbrev pub invariant-loop-name : goal.invariant-loop-name
invariant-loop-name l = ListsBefore l.self l.name-iterator l.due
