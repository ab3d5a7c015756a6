use Rattle.std.proofs.Common.{subst, sym}
use Rattle.ovs_lock_desk.specs.UpwardTable.{AreOpen}
use Rattle.ovs_lock_desk.specs.declared.lock_state.LockEvent.TheVariants as events
use Rattle.ovs_lock_desk.proofs.OwedMarks.{one_each}
use Rattle.ovs_lock_desk.proofs.Requests.{requested_found, open_nothing}
use Rattle.ovs_lock_desk.proofs.Settled.{settled_each}
use Rattle.ovs_lock_desk.proofs.upward_table.UpwardTable.found.Goals as goal

pub invariant_of-self : goal.invariant_of-self
invariant_of-self c = record {
  table = c.each.ensures.table;
  settled = settled_each events.Found c.self.inside.table c.each.new.self c.self.invariant.table.ascend c.self.invariant.settled c.each.ensures.after (λ l. tt);
  by_one = one_each events.Found c.self.inside.table c.each.new.self c.self.invariant.table.ascend c.self.invariant.by_one c.each.ensures.after;
  requested = requested_found c.self.inside.table c.each.new.self c.clear.new.self c.self.invariant.table.ascend c.self.invariant.settled c.each.ensures.after;
  only_open = subst (AreOpen c.each.new.self) (sym c.clear.ensures.value) (open_nothing c.each.new.self);
  listed = c.list_due.ensures.listed;
}
