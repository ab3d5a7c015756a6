use Rattle.std.proofs.Common.{◌≡◌, ◌∙◌, ap, subst, sym}
use Rattle.ovs_lock_desk.specs.LockDesk.{AreNamed, AreMarked, relay_lock_at}
use Rattle.ovs_lock_desk.specs.OwedMarks.{near_of, AreOthersMarked}
use Rattle.ovs_lock_desk.proofs.Names.{named_at}
use Rattle.ovs_lock_desk.proofs.OwedMarks.{others_marked}
use Rattle.ovs_lock_desk.proofs.lock_desk.LockDesk.at.Goals as goal

pub mark_near-requires : goal.mark_near-requires
mark_near-requires c =
    let name = c.args.name.now in
    let old = c.self.inside.table in
    let new = c.at.new.self in
    let sessions = c.self.inside.sessions in
    let near : c.of-near.result ≡ near_of (relay_lock_at name old) = c.of-near.ensures.value ∙ ap (λ locks. near_of (relay_lock_at name locks)) c.locks.ensures.value in
    record {
      named = subst (λ locks. AreNamed locks sessions) (sym c.locks-2.ensures.value) (named_at name c.args.event old new sessions c.self.invariant.0.ascend c.self.invariant.1 c.at.ensures.after);
      marked =
          subst (λ locks. AreOthersMarked c.of-near.result name locks sessions) (sym c.locks-2.ensures.value)
          (subst (λ near. AreOthersMarked near name new sessions) (sym near)
          (others_marked name c.args.event old new sessions c.self.invariant.0.ascend c.at.ensures.table.ascend (c.locks.ensures.by_one name) c.self.invariant.2 c.at.ensures.after));
    }

pub invariant_of-self : goal.invariant_of-self
invariant_of-self c = (
  c.at.ensures.table,
  subst (λ locks. AreNamed locks c.mark_near.new.sessions) c.locks-2.ensures.value c.mark_near.ensures.named,
  subst (λ locks. AreMarked locks c.mark_near.new.sessions) c.locks-2.ensures.value c.mark_near.ensures.marked,
)
