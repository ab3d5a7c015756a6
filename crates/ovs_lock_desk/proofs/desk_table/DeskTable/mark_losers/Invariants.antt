use Rattle.ovs_lock_desk.proofs.OwedMarks.{LosersBefore}
use Rattle.ovs_lock_desk.proofs.desk_table.DeskTable.mark_losers.Given as goal

abbrev pub invariant-loop-name : goal.invariant-loop-name
invariant-loop-name l = LosersBefore l.self l.name-iterator l.fn.sessions l.sessions
