use Rattle.ovs_lock_desk.specs.declared.lock_state.LockEvent.TheVariants as events
use Rattle.ovs_lock_desk.proofs.Stepping.{Stepping}
use Rattle.ovs_lock_desk.proofs.upward_table.UpwardTable.ended.Given as goal

abbrev pub invariant-loop-name : goal.invariant-loop-name
invariant-loop-name l = Stepping (events.Ended l.session) l.fn.self l.name-iterator l.self
