use Rattle.std.proofs.Common.{[], subst, sym}
use Rattle.ovs_lock_desk.specs.LockDesk.{AreNamed, AreMarked}
use Rattle.ovs_lock_desk.specs.OwedMarks.{AreMarkedButOwners}
use Rattle.ovs_lock_desk.proofs.Names.{named_ended}
use Rattle.ovs_lock_desk.proofs.OwedMarks.{marked_ended, none_old}
use Rattle.ovs_lock_desk.proofs.Silence.{all_gone}
use Rattle.ovs_lock_desk.proofs.lock_desk.LockDesk.end_session.Goals as goal

pub mark_owners-requires : goal.mark_owners-requires
mark_owners-requires c =
    let session = c.args.session in
    let old = c.self.inside.table in
    let new = c.ended.new.self in
    let s = c.self.inside.sessions in
    let t = c.take.new.self in
    record {
      named = subst (λ locks. AreNamed locks t) (sym c.locks.ensures.value) (named_ended session old new s t c.self.invariant.0.ascend c.self.invariant.1 c.ended.ensures.after c.take.ensures.forgets);
      marked =
          subst (λ locks. AreMarkedButOwners c.in-Some.names.entries locks t) (sym c.locks.ensures.value)
          (marked_ended session old new s t c.self.invariant.0.ascend c.in-Some.names.entries c.self.invariant.1 c.self.invariant.2 c.in-Some.ensures.names c.take.ensures.forgets c.ended.ensures.after);
    }

pub invariant_of-self : goal.invariant_of-self
invariant_of-self c = (
  c.ended.ensures.table,
  subst (λ locks. AreNamed locks c.mark_owners.new.sessions) c.locks.ensures.value c.mark_owners.ensures.named,
  subst (λ locks. AreMarked locks c.mark_owners.new.sessions) c.locks.ensures.value c.mark_owners.ensures.marked,
)

pub invariant_of-self-in_default : goal.invariant_of-self-in_default
invariant_of-self-in_default c =
    let session = c.args.session in
    let old = c.self.inside.table in
    let new = c.ended.new.self in
    let s = c.self.inside.sessions in
    let t = c.take.new.self in (
      c.ended.ensures.table,
      named_ended session old new s t c.self.invariant.0.ascend c.self.invariant.1 c.ended.ensures.after c.take.ensures.forgets,
      none_old new t (marked_ended session old new s t c.self.invariant.0.ascend [] c.self.invariant.1 c.self.invariant.2 c.in_default.ensures.names c.take.ensures.forgets c.ended.ensures.after),
    )

pub returns-in-Some-clause-gone : goal.returns-in-Some-clause-gone
returns-in-Some-clause-gone c = rw c.ended.ensures.after (all_gone c.args.session c.self.inside.table)

pub returns-in_default-clause-gone : goal.returns-in_default-clause-gone
returns-in_default-clause-gone c = rw c.ended.ensures.after (all_gone c.args.session c.self.inside.table)
