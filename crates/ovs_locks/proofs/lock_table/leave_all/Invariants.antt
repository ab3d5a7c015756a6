use Rattle.ovs_locks.proofs.TableSteps.{Leaving}
use Rattle.ovs_locks.proofs.lock_table.leave_all.Given as goal

abbrev pub invariant-loop-name : goal.invariant-loop-name
invariant-loop-name l = Leaving l.session l.fn.locks l.name-iterator l.locks l.sessions
