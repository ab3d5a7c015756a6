use Rattle.ovs_lock_desk.proofs.OwedMarks.{named_told, marked_told}
use Rattle.ovs_lock_desk.proofs.Silence.{nothing_owed}
use Rattle.ovs_lock_desk.proofs.lock_desk.LockDesk.notices.Goals as goal

pub returns-clause-nothing : goal.returns-clause-nothing
returns-clause-nothing c = rw c.all_told.ensures.after (nothing_owed c.args.session c.self.inside.table)

pub invariant_of-self : goal.invariant_of-self
invariant_of-self c =
    let old = c.self.inside.table in
    let new = c.all_told.new.self in
    let sessions = c.self.inside.sessions in (
      c.all_told.ensures.table,
      named_told c.args.session old new sessions c.note_told.new.self c.self.invariant.0.ascend c.self.invariant.1 c.note_told.ensures.told c.all_told.ensures.after,
      marked_told c.args.session old new sessions c.note_told.new.self c.self.invariant.0.ascend c.self.invariant.2 c.note_told.ensures.told c.all_told.ensures.after,
    )
