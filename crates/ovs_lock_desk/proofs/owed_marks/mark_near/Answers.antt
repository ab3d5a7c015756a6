use Rattle.std.proofs.Common.{true, Some, subst}
use Rattle.ovs_locks.specs.BySession.{RemarksAny}
use Rattle.ovs_lock_desk.specs.LockDesk.{relay_lock_at}
use Rattle.ovs_lock_desk.specs.OwedMarks.{if_owed}
use Rattle.ovs_lock_desk.proofs.OwedMarks.{named_owed, near_marked}
use Rattle.ovs_lock_desk.proofs.owed_marks.mark_near.Goals as goal

pub returns-clause-named : goal.returns-clause-named
returns-clause-named c =
    let locks = c.args.table.now in
    let name = c.args.name.now in
    let lock = relay_lock_at name locks in
    let t = c.mark_owed.new.sessions in
    let u = c.mark_owed-2.new.sessions in
    let first = named_owed locks name (if_owed c.args.near.owner lock) c.args.sessions.now t c.requires.named c.mark_owed.ensures.marks in
    let second = named_owed locks name (if_owed c.args.near.stealer lock) t u first c.mark_owed-2.ensures.marks in
    named_owed locks name (if_owed c.owner-next.result lock) u c.mark_owed-3.new.sessions second c.mark_owed-3.ensures.marks

pub returns-clause-marked : goal.returns-clause-marked
returns-clause-marked c =
    let locks = c.args.table.now in
    let name = c.args.name.now in
    let u = c.mark_owed-2.new.sessions in
    let v = c.mark_owed-3.new.sessions in
    near_marked locks name c.args.near c.args.sessions.now c.mark_owed.new.sessions u v c.requires.marked c.mark_owed.ensures.marks c.mark_owed-2.ensures.marks
    (subst (λ o. RemarksAny (λ x. Some true) (if_owed o (relay_lock_at name locks)) name u v) c.owner-next.ensures.value c.mark_owed-3.ensures.marks)
