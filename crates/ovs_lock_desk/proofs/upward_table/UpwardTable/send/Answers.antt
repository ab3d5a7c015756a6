use Rattle.std.proofs.Common.{◌≡◌, Some, subst, sym}
use Rattle.ovs_lock_desk.specs.LockState.{verb_due}
use Rattle.ovs_lock_desk.specs.RelayLock.{step}
use Rattle.ovs_lock_desk.specs.LockDesk.{relay_lock_at}
use Rattle.ovs_lock_desk.specs.declared.lock_state.LockEvent.TheVariants as events
use Rattle.ovs_lock_desk.proofs.DueUp.{others_due}
use Rattle.ovs_lock_desk.proofs.OwedMarks.{one_at}
use Rattle.ovs_lock_desk.proofs.Requests.{requested_opened, open_sent}
use Rattle.ovs_lock_desk.proofs.Settled.{settled_at, settled_sent}
use Rattle.ovs_lock_desk.proofs.upward_table.UpwardTable.send.Goals as goal

pub note_due-requires : goal.note_due-requires
note_due-requires c = record { others = others_due c.args.name.now (step (events.Sent c.args.number)) c.self.inside.table c.at.new.self c.self.inside.due c.self.invariant.listed c.at.ensures.after }

pub invariant_of-self-2 : goal.invariant_of-self-2
invariant_of-self-2 c =
    let due = subst (λ locks. verb_due (relay_lock_at c.args.name.now locks).state ≡ Some c.args.verb) (sym c.self.view_is) c.requires.due in
    record {
      table = c.at.ensures.table;
      settled =
          settled_at c.args.name.now (step (events.Sent c.args.number)) c.self.inside.table c.at.new.self c.self.invariant.table.ascend c.self.invariant.settled c.at.ensures.after
          (λ was. settled_sent c.args.number (relay_lock_at c.args.name.now c.self.inside.table) was);
      by_one = one_at c.args.name.now (events.Sent c.args.number) c.self.inside.table c.at.new.self c.self.invariant.table.ascend c.self.invariant.by_one c.at.ensures.after;
      requested =
          requested_opened c.args.verb c.args.number c.args.name.now c.self.inside.table c.at.new.self c.self.inside.requests c.note_sent.new.self c.self.invariant.table.ascend c.self.invariant.requested due
          c.in_ok-note_sent.ensures.opens c.at.ensures.after;
      only_open =
          open_sent c.args.number c.args.name.now c.self.inside.table c.at.new.self c.self.inside.requests c.self.invariant.table.ascend c.at.ensures.table.ascend c.self.invariant.only_open c.at.ensures.after
          c.args.verb c.note_sent.new.self due c.in_ok-note_sent.ensures.opens;
      listed = c.note_due.ensures.listed;
    }
