use Rattle.std.proofs.Common.{subst, sym}
use Rattle.ovs_lock_desk.specs.RelayLock.{asked_here}
use Rattle.ovs_lock_desk.specs.LockDesk.{relay_lock_at}
use Rattle.ovs_lock_desk.specs.UpwardTable.{OthersOpen}
use Rattle.ovs_lock_desk.proofs.DueUp.{others_due}
use Rattle.ovs_lock_desk.proofs.OwedMarks.{one_changed}
use Rattle.ovs_lock_desk.proofs.Requests.{requested_asked, others_open}
use Rattle.ovs_lock_desk.proofs.Settled.{settled_at, settled_asked}
use Rattle.ovs_lock_desk.proofs.Unowed.{one_asked}
use Rattle.ovs_lock_desk.proofs.upward_table.UpwardTable.enter.Goals as goal

pub note_open-requires : goal.note_open-requires
note_open-requires c =
    let name = c.args.name.now in
    let old = c.self.inside.table in
    let new = c.enter.new.self in
    let asked = asked_here c.args.has_source c.args.session c.args.verb c.args.id.now in
    record {
      requested =
          requested_asked c.args.has_source c.args.session c.args.verb c.args.id.now name old new c.self.inside.requests c.self.invariant.table.ascend c.self.invariant.requested c.in_ok-answer.ensures.after;
      others =
          subst (λ number. OthersOpen number name new c.self.inside.requests) (sym c.open_number-number.ensures.value)
          (others_open name asked old new c.self.inside.requests c.self.invariant.only_open c.in_ok-answer.ensures.after);
    }

pub note_due-requires : goal.note_due-requires
note_due-requires c = record {
  others =
      others_due c.args.name.now (asked_here c.args.has_source c.args.session c.args.verb c.args.id.now) c.self.inside.table c.enter.new.self c.self.inside.due c.self.invariant.listed c.in_ok-answer.ensures.after;
}

pub invariant_of-self-2 : goal.invariant_of-self-2
invariant_of-self-2 c =
    let lock = relay_lock_at c.args.name.now c.self.inside.table in
    record {
      table = c.in_ok-answer.ensures.table;
      settled =
          settled_at c.args.name.now (asked_here c.args.has_source c.args.session c.args.verb c.args.id.now) c.self.inside.table c.enter.new.self c.self.invariant.table.ascend c.self.invariant.settled
          c.in_ok-answer.ensures.after
          (λ was. settled_asked c.args.has_source c.args.session c.args.verb c.args.id.now lock c.requires.enters was);
      by_one =
          one_changed c.args.name.now (asked_here c.args.has_source c.args.session c.args.verb c.args.id.now) c.self.inside.table c.enter.new.self c.self.invariant.table.ascend c.self.invariant.by_one
          c.in_ok-answer.ensures.after
          (λ one. one_asked c.args.has_source c.args.session c.args.verb c.args.id.now lock c.in_ok-answer.ensures.answer.0 one);
      requested = c.note_open.ensures.requested;
      only_open = c.note_open.ensures.only_open;
      listed = c.note_due.ensures.listed;
    }
