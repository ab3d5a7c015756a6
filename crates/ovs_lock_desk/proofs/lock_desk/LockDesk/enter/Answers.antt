use Rattle.std.proofs.Common.{◌≡◌, ◌∙◌, ap, subst, sym}
use Rattle.ovs_locks.specs.BySession.{Remarks}
use Rattle.ovs_lock_desk.specs.LockDesk.{AreNamed, AreMarked, relay_lock_at}
use Rattle.ovs_lock_desk.specs.OwedMarks.{desk_mark, near_of, AreOthersMarked}
use Rattle.ovs_lock_desk.proofs.OwedMarks.{named_either, asked_marked, named_remarked}
use Rattle.ovs_lock_desk.proofs.lock_desk.LockDesk.enter.Goals as goal

pub mark_near-requires : goal.mark_near-requires
mark_near-requires c =
    let session = c.args.session in
    let name = c.args.name.now in
    let old = c.self.inside.table in
    let new = c.enter-answer.new.self in
    let s = c.self.inside.sessions in
    let t = c.enter.new.self in
    let u = c.remark.new.sessions in
    let source = c.self.inside.has_source in
    let marks = subst (λ locks. Remarks (λ x. desk_mark x (relay_lock_at name locks)) session name t u) c.locks-3.ensures.value c.remark.ensures.marks in
    let near : c.of-near.result ≡ near_of (relay_lock_at name old) = c.of-near.ensures.value ∙ ap (λ locks. near_of (relay_lock_at name locks)) c.locks-2.ensures.value in
    record {
      named =
          subst (λ locks. AreNamed locks u) (sym c.locks-4.ensures.value)
          (named_remarked new name session t u
          (named_either source session c.args.verb c.args.id.now name old new s t c.self.invariant.0.ascend c.in_ok-enter.ensures.note c.enter-answer.result c.self.invariant.1 c.enter-answer.ensures.after c.enter-answer.ensures.unchanged)
          marks);
      marked =
          subst (λ locks. AreOthersMarked c.of-near.result name locks u) (sym c.locks-4.ensures.value)
          (subst (λ near. AreOthersMarked near name new u) (sym near)
          (asked_marked source session c.args.verb c.args.id.now name old new s t c.self.invariant.0.ascend c.in_ok-enter.ensures.note c.enter-answer.result u c.requires.enters c.self.invariant.2 c.enter-answer.ensures.after c.enter-answer.ensures.unchanged marks));
    }

pub invariant_of-self-2 : goal.invariant_of-self-2
invariant_of-self-2 c = (
  c.locks-4.ensures.table,
  subst (λ locks. AreNamed locks c.mark_near.new.sessions) c.locks-4.ensures.value c.mark_near.ensures.named,
  subst (λ locks. AreMarked locks c.mark_near.new.sessions) c.locks-4.ensures.value c.mark_near.ensures.marked,
)
