use Rattle.std.proofs.Common.{◌≡◌, ◌∷◌, true, Some, sym, subst, rules}
use Rattle.ovs_locks.specs.BySession.{RemarksAny}
use Rattle.ovs_lock_desk.specs.LockDesk.{relay_lock_at}
use Rattle.ovs_lock_desk.specs.OwedMarks.{if_owed, AreMarkedButOwners}
use Rattle.ovs_lock_desk.proofs.OwedMarks.{named_owed, owner_marked, none_old}
use Rattle.ovs_lock_desk.proofs.owed_marks.mark_owners.Goals as goal

pub loop-name-init : goal.loop-name-init
loop-name-init c =
    let iter : c.into_iter-name-iterator.result ≡ c.args.names.now.entries = search rules in
    (c.requires.named, subst (λ names. AreMarkedButOwners names c.args.table.now c.args.sessions.now) (sym iter) c.requires.marked)

pub loop-name-preserved : goal.loop-name-preserved
loop-name-preserved c =
    let locks = c.args.table.now in
    let name = c.in-Some.name.now in
    let mark = c.in-Some._mark.now in
    let step : c.loop-name.name-iterator ≡ (name, mark) ∷ c.next.new.self = search rules in (
      named_owed locks name (if_owed c.owner-owner.result (relay_lock_at name locks)) c.loop-name.sessions c.mark_owed.new.sessions c.loop-name.invariant.0 c.mark_owed.ensures.marks,
      owner_marked locks name mark c.loop-name.name-iterator c.next.new.self c.loop-name.sessions c.mark_owed.new.sessions step c.loop-name.invariant.1
          (subst (λ o. RemarksAny (λ x. Some true) (if_owed o (relay_lock_at name locks)) name c.loop-name.sessions c.mark_owed.new.sessions) c.owner-owner.ensures.value c.mark_owed.ensures.marks),
    )

pub returns-clause-named : goal.returns-clause-named
returns-clause-named c = c.loop-name.invariant.0

pub returns-clause-marked : goal.returns-clause-marked
returns-clause-marked c =
    none_old c.args.table.now c.loop-name.sessions (subst (λ names. AreMarkedButOwners names c.args.table.now c.loop-name.sessions) c.in-None.ensures.steps.0 c.loop-name.invariant.1)
