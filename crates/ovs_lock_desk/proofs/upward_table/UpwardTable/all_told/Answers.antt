use Rattle.ovs_lock_desk.specs.declared.lock_state.LockEvent.TheVariants as events
use Rattle.ovs_lock_desk.proofs.DueUp.{due_each}
use Rattle.ovs_lock_desk.proofs.OwedMarks.{one_each}
use Rattle.ovs_lock_desk.proofs.Requests.{requested_each, open_told}
use Rattle.ovs_lock_desk.proofs.Settled.{settled_each}
use Rattle.ovs_lock_desk.proofs.upward_table.UpwardTable.all_told.Goals as goal

pub invariant_of-self : goal.invariant_of-self
invariant_of-self c = record {
  table = c.each.ensures.table;
  settled = settled_each (events.AllTold c.args.session) c.self.inside.table c.each.new.self c.self.invariant.table.ascend c.self.invariant.settled c.each.ensures.after (λ l. tt);
  by_one = one_each (events.AllTold c.args.session) c.self.inside.table c.each.new.self c.self.invariant.table.ascend c.self.invariant.by_one c.each.ensures.after;
  requested = requested_each (events.AllTold c.args.session) c.self.inside.table c.each.new.self c.self.inside.requests c.self.invariant.table.ascend c.self.invariant.requested (λ l. tt) c.each.ensures.after;
  only_open = open_told c.args.session c.self.inside.table c.each.new.self c.self.inside.requests c.self.invariant.table.ascend c.self.invariant.only_open c.each.ensures.after;
  listed = due_each (events.AllTold c.args.session) c.self.inside.table c.each.new.self c.self.inside.due c.self.invariant.table.ascend c.self.invariant.listed c.each.ensures.after (λ l none. none) (λ l some. some);
}
