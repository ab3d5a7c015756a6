use Rattle.ovs_lock_desk.specs.declared.lock_state.LockEvent.TheVariants as events
use Rattle.ovs_lock_desk.proofs.Names.{named_each}
use Rattle.ovs_lock_desk.proofs.OwedMarks.{marked_found}
use Rattle.ovs_lock_desk.proofs.lock_desk.LockDesk.found_source.Goals as goal

pub invariant_of-self : goal.invariant_of-self
invariant_of-self c = (
  c.found.ensures.table,
  named_each events.Found c.self.inside.table c.found.new.self c.self.inside.sessions c.self.invariant.0.ascend c.self.invariant.1 c.found.ensures.after,
  marked_found c.self.inside.table c.found.new.self c.self.inside.sessions c.self.invariant.0.ascend c.self.invariant.2 c.found.ensures.after,
)
