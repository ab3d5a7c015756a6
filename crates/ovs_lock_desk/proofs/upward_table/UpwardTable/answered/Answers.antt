use Rattle.std.proofs.Common.{[], ap, sym, refl}
use Rattle.ovs_locks.specs.BySession.{mark_in}
use Rattle.ovs_locks.proofs.Notes.{none_ascend}
use Rattle.ovs_lock_desk.specs.LockDesk.{relay_lock_at}
use Rattle.ovs_lock_desk.specs.declared.lock_state.LockEvent.TheVariants as events
use Rattle.ovs_lock_desk.proofs.DueUp.{due_each, due_answered, due_unanswered}
use Rattle.ovs_lock_desk.proofs.OwedMarks.{one_each}
use Rattle.ovs_lock_desk.proofs.Requests.{requested_answered, open_answered, unanswered}
use Rattle.ovs_lock_desk.proofs.Settled.{settled_each}
use Rattle.ovs_lock_desk.proofs.Stepping.{stepping_first, has_stepped}
use Rattle.ovs_lock_desk.proofs.upward_table.UpwardTable.answered.Goals as goal

pub returns-in_default-clause-after : goal.returns-in_default-clause-after
returns-in_default-clause-after c =
    let event = events.Answered c.args.number c.args.reply in
    let locks = c.self.inside.table in
    rw (← c.self.view_is)
    (has_stepped event locks locks c.self.invariant.table
    (stepping_first event locks [] (none_ascend c.args.number [] refl) c.self.invariant.table
    (λ name none. unanswered c.args.number c.args.reply (relay_lock_at name locks) (c.self.invariant.requested c.args.number name (ap (mark_in name) (sym c.in_default.ensures.names))))))

pub invariant_of-self-2 : goal.invariant_of-self-2
invariant_of-self-2 c =
    let event = events.Answered c.args.number c.args.reply in
    record {
      table = c.at_each.ensures.table;
      settled = settled_each event c.self.inside.table c.at_each.new.table c.self.invariant.table.ascend c.self.invariant.settled c.at_each.ensures.after (λ l. tt);
      by_one = one_each event c.self.inside.table c.at_each.new.table c.self.invariant.table.ascend c.self.invariant.by_one c.at_each.ensures.after;
      requested =
          requested_answered c.args.number c.args.reply c.self.inside.table c.at_each.new.table c.self.inside.requests c.take.new.self c.self.invariant.table.ascend c.self.invariant.requested
          c.at_each.ensures.after c.take.ensures.forgets;
      only_open =
          open_answered c.args.number c.args.reply c.self.inside.table c.at_each.new.table c.self.inside.requests c.take.new.self c.self.invariant.table.ascend c.self.invariant.only_open
          c.at_each.ensures.after c.take.ensures.forgets;
      listed = due_each event c.self.inside.table c.at_each.new.table c.self.inside.due c.self.invariant.table.ascend c.self.invariant.listed c.at_each.ensures.after (due_answered c.args.number c.args.reply) (due_unanswered c.args.number c.args.reply);
    }
