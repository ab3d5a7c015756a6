use Rattle.std.proofs.Common.{subst, sym}
use Rattle.ovs_lock_desk.specs.RelayLock.{step, MayHappen}
use Rattle.ovs_lock_desk.specs.LockDesk.{relay_lock_at}
use Rattle.ovs_lock_desk.specs.UpwardTable.{OthersOpen}
use Rattle.ovs_lock_desk.proofs.DueUp.{others_due}
use Rattle.ovs_lock_desk.proofs.OwedMarks.{one_at}
use Rattle.ovs_lock_desk.proofs.Requests.{requested_at, others_open}
use Rattle.ovs_lock_desk.proofs.Settled.{settled_at, settled_stepped}
use Rattle.ovs_lock_desk.proofs.upward_table.UpwardTable.at.Goals as goal

pub note_open-requires : goal.note_open-requires
note_open-requires c =
    let name = c.args.name.now in
    let old = c.self.inside.table in
    let new = c.at.new.self in
    let may = subst (λ locks. MayHappen c.args.event (relay_lock_at name locks)) (sym c.self.view_is) c.requires.may in
    record {
      requested = requested_at name c.args.event old new c.self.inside.requests c.self.invariant.table.ascend c.self.invariant.requested may c.at.ensures.after;
      others =
          subst (λ number. OthersOpen number name new c.self.inside.requests) (sym c.open_number-number.ensures.value)
          (others_open name (step c.args.event) old new c.self.inside.requests c.self.invariant.only_open c.at.ensures.after);
    }

pub note_due-requires : goal.note_due-requires
note_due-requires c = record { others = others_due c.args.name.now (step c.args.event) c.self.inside.table c.at.new.self c.self.inside.due c.self.invariant.listed c.at.ensures.after }

pub invariant_of-self : goal.invariant_of-self
invariant_of-self c =
    let may = subst (λ locks. MayHappen c.args.event (relay_lock_at c.args.name.now locks)) (sym c.self.view_is) c.requires.may in
    record {
      table = c.at.ensures.table;
      settled =
          settled_at c.args.name.now (step c.args.event) c.self.inside.table c.at.new.self c.self.invariant.table.ascend c.self.invariant.settled c.at.ensures.after
          (λ was. settled_stepped c.args.event (relay_lock_at c.args.name.now c.self.inside.table) may was);
      by_one = one_at c.args.name.now c.args.event c.self.inside.table c.at.new.self c.self.invariant.table.ascend c.self.invariant.by_one c.at.ensures.after;
      requested = c.note_open.ensures.requested;
      only_open = c.note_open.ensures.only_open;
      listed = c.note_due.ensures.listed;
    }
