use Rattle.std.proofs.Common.{subst, sym}
use Rattle.ovs_lock_desk.specs.UpwardTable.{AreOpen, ListsDue}
use Rattle.ovs_lock_desk.specs.declared.lock_state.LockEvent.TheVariants as events
use Rattle.ovs_lock_desk.proofs.DueUp.{due_lost}
use Rattle.ovs_lock_desk.proofs.OwedMarks.{one_each}
use Rattle.ovs_lock_desk.proofs.Requests.{requested_lost, open_nothing}
use Rattle.ovs_lock_desk.proofs.Settled.{settled_each}
use Rattle.ovs_lock_desk.proofs.upward_table.UpwardTable.lost.Goals as goal

pub invariant_of-self : goal.invariant_of-self
invariant_of-self c = record {
  table = c.each.ensures.table;
  settled = settled_each events.Lost c.self.inside.table c.each.new.self c.self.invariant.table.ascend c.self.invariant.settled c.each.ensures.after (λ l. tt);
  by_one = one_each events.Lost c.self.inside.table c.each.new.self c.self.invariant.table.ascend c.self.invariant.by_one c.each.ensures.after;
  requested = requested_lost c.self.inside.table c.each.new.self c.clear.new.self c.self.invariant.table.ascend c.each.ensures.after;
  only_open = subst (AreOpen c.each.new.self) (sym c.clear.ensures.value) (open_nothing c.each.new.self);
  listed = subst (ListsDue c.each.new.self) (sym c.clear-2.ensures.value) (due_lost c.self.inside.table c.each.new.self c.self.invariant.table.ascend c.each.ensures.after);
}
