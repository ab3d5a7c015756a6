use Rattle.std.proofs.Common.{◌≡◌, ◌∙◌, ◌∷◌, ◌++◌, true, false, sym, ap, subst, rules}
use Rattle.std.specs.Prelude.{is_some, slice_get}
use Rattle.ovs_locks.specs.ByName.{Ascends, gathered}
use Rattle.ovs_locks.proofs.NextNotice.{first_front, nothing_first}
use Rattle.ovs_lock_desk.specs.LockDesk.{AreNamed, AreMarked, relay_lock_at, notices_here, notices_to}
use Rattle.ovs_lock_desk.proofs.Telling.{marked, told_next, notices_told, notices_none}
use Rattle.ovs_lock_desk.proofs.lock_desk.LockDesk.first_notice.Goals as goal

pub returns-in_default-clause-value : goal.returns-in_default-clause-value
returns-in_default-clause-value c =
    let session = c.args.session in
    let locks = c.args.self.now.locks in
    let s = c.self.inside.sessions in
    let same : c.self.inside.table ≡ locks = ap (λ d. d.locks) c.self.view_is in
    ap (λ xs. slice_get xs 0)
    (notices_none session locks s (subst Ascends same c.self.invariant.0.ascend) c.owed.ensures.ascend (subst (λ ls. AreNamed ls s) same c.self.invariant.1) (subst (λ ls. AreMarked ls s) same c.self.invariant.2) c.in_default.ensures.value)

pub loop-name-init : goal.loop-name-init
loop-name-init c =
    let session = c.args.session in
    let locks = c.args.self.now.locks in
    let s = c.self.inside.sessions in
    let same : c.self.inside.table ≡ locks = ap (λ d. d.locks) c.self.view_is in
    let iter : c.into_iter-name-iterator.result ≡ c.in-Some.names.now.entries = search rules in
    ap (gathered (marked (notices_here session) locks)) iter
    ∙ notices_told session locks s (subst Ascends same c.self.invariant.0.ascend) c.owed.ensures.ascend (subst (λ ls. AreNamed ls s) same c.self.invariant.1) (subst (λ ls. AreMarked ls s) same c.self.invariant.2) c.in-Some.names.now.entries c.in-Some.ensures.value

pub returns-then-is_some-clause-value : goal.returns-then-is_some-clause-value
returns-then-is_some-clause-value c =
    let session = c.args.session in
    let locks = c.args.self.now.locks in
    let same : c.self.inside.table ≡ locks = ap (λ d. d.locks) c.self.view_is in
    let name = c.in-Some-2.name.now in
    let mark = c.in-Some-2.mark.now in
    let later = c.next.new.self in
    let step : c.loop-name.name-iterator ≡ (name, mark) ∷ later = search rules in
    let is : c.in_ok-notice.notice ≡ slice_get (notices_here session name (relay_lock_at name locks)) 0 = c.in_ok-notice.ensures.value ∙ ap (λ ls. slice_get (notices_here session name (relay_lock_at name ls)) 0) (c.locks.ensures.value ∙ same) in
    is
    ∙ sym (first_front (notices_here session name (relay_lock_at name locks)) (gathered (marked (notices_here session) locks) later) (ap is_some (sym is) ∙ sym c.is_some.ensures ∙ c.if-is_some.true))
    ∙ ap (λ xs. slice_get xs 0) (told_next (notices_here session) locks name mark true c.loop-name.name-iterator later (notices_to session locks) step c.if-mark.true c.loop-name.invariant)

pub loop-name-preserved-else-is_some-3 : goal.loop-name-preserved-else-is_some-3
loop-name-preserved-else-is_some-3 c =
    let session = c.args.session in
    let locks = c.args.self.now.locks in
    let same : c.self.inside.table ≡ locks = ap (λ d. d.locks) c.self.view_is in
    let name = c.in-Some-2.name.now in
    let mark = c.in-Some-2.mark.now in
    let later = c.next.new.self in
    let step : c.loop-name.name-iterator ≡ (name, mark) ∷ later = search rules in
    let is : c.in_ok-notice.notice ≡ slice_get (notices_here session name (relay_lock_at name locks)) 0 = c.in_ok-notice.ensures.value ∙ ap (λ ls. slice_get (notices_here session name (relay_lock_at name ls)) 0) (c.locks.ensures.value ∙ same) in
    let none = nothing_first (notices_here session name (relay_lock_at name locks)) (ap is_some (sym is) ∙ sym c.is_some.ensures ∙ c.if-is_some.false) in
    sym (ap (λ xs. xs ++ gathered (marked (notices_here session) locks) later) none)
    ∙ told_next (notices_here session) locks name mark true c.loop-name.name-iterator later (notices_to session locks) step c.if-mark.true c.loop-name.invariant

pub loop-name-preserved : goal.loop-name-preserved
loop-name-preserved c =
    let session = c.args.session in
    let locks = c.args.self.now.locks in
    let name = c.in-Some-2.name.now in
    let mark = c.in-Some-2.mark.now in
    let later = c.next.new.self in
    let step : c.loop-name.name-iterator ≡ (name, mark) ∷ later = search rules in
    told_next (notices_here session) locks name mark false c.loop-name.name-iterator later (notices_to session locks) step c.if-mark.false c.loop-name.invariant
