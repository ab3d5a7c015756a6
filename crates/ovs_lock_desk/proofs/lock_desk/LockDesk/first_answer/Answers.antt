use Rattle.std.proofs.Common.{◌≡◌, ◌∙◌, ◌∷◌, ◌++◌, List, ℕ, true, false, Some, None, sym, ap, subst, rules}
use Rattle.std.specs.Prelude.{map, filter, slice_get}
use Rattle.ovs_locks.specs.ByName.{Ascends, gathered}
use Rattle.ovs_lock_desk.specs.LockDesk.{AreNamed, AreMarked, relay_lock_at, answers_here, answers_to}
use Rattle.ovs_lock_desk.specs.PendingSteal.{is_due_late}
use Rattle.ovs_lock_desk.specs.declared.pending_steal.PendingSteal.{PendingSteal}
use Rattle.ovs_lock_desk.proofs.DeskTables.{first_here, first_mapped, none_first}
use Rattle.ovs_lock_desk.proofs.Telling.{marked, told_next, answers_told, answers_none}
use Rattle.ovs_lock_desk.proofs.lock_desk.LockDesk.first_answer.Goals as goal

pub returns-in_default-clause-value : goal.returns-in_default-clause-value
returns-in_default-clause-value c =
    let session = c.args.session in
    let locks = c.args.self.now.locks in
    let s = c.self.inside.sessions in
    let same : c.self.inside.table ≡ locks = ap (λ d. d.locks) c.self.view_is in
    ap (λ xs. slice_get xs 0)
    (answers_none session locks s (subst Ascends same c.self.invariant.0.ascend) c.owed.ensures.ascend (subst (λ ls. AreNamed ls s) same c.self.invariant.1) (subst (λ ls. AreMarked ls s) same c.self.invariant.2) c.in_default.ensures.value)

pub loop-name-init : goal.loop-name-init
loop-name-init c =
    let session = c.args.session in
    let locks = c.args.self.now.locks in
    let s = c.self.inside.sessions in
    let same : c.self.inside.table ≡ locks = ap (λ d. d.locks) c.self.view_is in
    let iter : c.into_iter-name-iterator.result ≡ c.in-Some.names.now.entries = search rules in
    ap (gathered (marked (answers_here session) locks)) iter
    ∙ answers_told session locks s (subst Ascends same c.self.invariant.0.ascend) c.owed.ensures.ascend (subst (λ ls. AreNamed ls s) same c.self.invariant.1) (subst (λ ls. AreMarked ls s) same c.self.invariant.2) c.in-Some.names.now.entries c.in-Some.ensures.value

pub returns-in-Some-first_answer-clause-value : goal.returns-in-Some-first_answer-clause-value
returns-in-Some-first_answer-clause-value c =
    let session = c.args.session in
    let locks = c.args.self.now.locks in
    let same : c.self.inside.table ≡ locks = ap (λ d. d.locks) c.self.view_is in
    let name = c.in-Some-2.name.now in
    let mark = c.in-Some-2.mark.now in
    let later = c.next.new.self in
    let pair : PendingSteal → List ℕ × PendingSteal = λ late. (name, late) in
    let step : c.loop-name.name-iterator ≡ (name, mark) ∷ later = search rules in
    let there : Some c.in-Some-first_answer.late.now ≡ slice_get (filter (is_due_late session) (relay_lock_at name c.self.inside.table).late) 0 = search rules in
    let one : Some c.in-Some-first_answer.late.now ≡ slice_get (filter (is_due_late session) (relay_lock_at name locks).late) 0 = there ∙ ap (λ ls. slice_get (filter (is_due_late session) (relay_lock_at name ls).late) 0) same in
    let due = filter (is_due_late session) (relay_lock_at name locks).late in
    first_here (map pair due) (gathered (marked (answers_here session) locks) later) (name, c.in-Some-first_answer.late.now) (first_mapped pair due c.in-Some-first_answer.late.now one)
    ∙ ap (λ xs. slice_get xs 0) (told_next (answers_here session) locks name mark true c.loop-name.name-iterator later (answers_to session locks) step c.if-mark.true c.loop-name.invariant)

pub loop-name-preserved-in_default-first_answer : goal.loop-name-preserved-in_default-first_answer
loop-name-preserved-in_default-first_answer c =
    let session = c.args.session in
    let locks = c.args.self.now.locks in
    let same : c.self.inside.table ≡ locks = ap (λ d. d.locks) c.self.view_is in
    let name = c.in-Some-2.name.now in
    let mark = c.in-Some-2.mark.now in
    let later = c.next.new.self in
    let pair : PendingSteal → List ℕ × PendingSteal = λ late. (name, late) in
    let step : c.loop-name.name-iterator ≡ (name, mark) ∷ later = search rules in
    let there : None ≡ slice_get (filter (is_due_late session) (relay_lock_at name c.self.inside.table).late) 0 = search rules in
    let due = filter (is_due_late session) (relay_lock_at name locks).late in
    let none : None ≡ slice_get due 0 = there ∙ ap (λ ls. slice_get (filter (is_due_late session) (relay_lock_at name ls).late) 0) same in
    sym (ap (λ (ls : List PendingSteal). map pair ls ++ gathered (marked (answers_here session) locks) later) (none_first due none))
    ∙ told_next (answers_here session) locks name mark true c.loop-name.name-iterator later (answers_to session locks) step c.if-mark.true c.loop-name.invariant

pub loop-name-preserved : goal.loop-name-preserved
loop-name-preserved c =
    let session = c.args.session in
    let locks = c.args.self.now.locks in
    let name = c.in-Some-2.name.now in
    let mark = c.in-Some-2.mark.now in
    let later = c.next.new.self in
    let step : c.loop-name.name-iterator ≡ (name, mark) ∷ later = search rules in
    told_next (answers_here session) locks name mark false c.loop-name.name-iterator later (answers_to session locks) step c.if-mark.false c.loop-name.invariant
