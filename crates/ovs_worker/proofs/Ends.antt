-- How a session that had a turn has ended.
use Rattle.std.proofs.Common.{◌≡◌, ◌∙◌, sym, ap, subst, refl, inl, inr, ℕ, List, Option, Some, None, Result, Ok, Err, arith}
use Rattle.ovs_wire.specs.Counted.{one_more}
use Rattle.ovs_session.specs.declared.limits.Limits.{Limits}
use Rattle.ovs_session.specs.declared.limits.TurnProgress.{TurnProgress}
use Rattle.ovs_session.specs.declared.ended.Ended.{Ended}
use Rattle.ovs_session.specs.declared.ended.Ended.TheVariants.{Closed, ReadFault, WriteFault, BadInput, TurnsSpent, Gone, Epoch, NoMemory}
use Rattle.ovs_session.specs.Moving.{ended_by, kept}
use Rattle.ovs_session.specs.Turning.{WithDevices, CountsFault}
use Rattle.ovs_worker.specs.Slots.{HasFailed, IsEnd, Turned}

kept_is : (x e : Ended) → kept x ≡ Some e → x ≡ e
kept_is Closed e is = grind (arith, is)
kept_is ReadFault e is = grind (arith, is)
kept_is WriteFault e is = grind (arith, is)
kept_is BadInput e is = grind (arith, is)
kept_is TurnsSpent e is = absurd (grind (arith, is))
kept_is Gone e is = grind (arith, is)
kept_is Epoch e is = grind (arith, is)
kept_is NoMemory e is = absurd (grind (arith, is))

-- an end that is kept is what was answered
answered_by : (result : Result TurnProgress Ended) (e : Ended) → ended_by result ≡ Some e → result ≡ Err e
answered_by (Ok progress) e is = absurd (grind (arith, is))
answered_by (Err x) e is = ap (λ y. Err y) (kept_is x e is)

none_some : {A : Type 0} (a : A) → None ≡ Some a → ⊥
none_some a is = grind (arith, is)

-- one failure more, exactly where the session ended by this fault
failed : (fault : Ended) (result : Result TurnProgress Ended) (was is : Option Ended) (old new : ℕ) → kept fault ≡ Some fault
    → was ≡ None → is ≡ ended_by result → HasFailed fault was old → CountsFault fault result old new → HasFailed fault is new
failed fault result was is old new final none ends had counts =
    let zero : old ≡ 0 = had.never (λ e. none_some fault (sym none ∙ e)) in
    record {
      once = λ e. counts.failed (answered_by result fault (sym ends ∙ e)) ∙ ap one_more zero;
      never = λ e. counts.others (λ (r : result ≡ Err fault). e (ends ∙ ap ended_by r ∙ final)) ∙ zero;
    }

module _ {C R W : Type 0} (answers : C → List ℕ → List ℕ → C → Type 0) (tells : C → List ℕ → C → Type 0)
    (refuses : C → List ℕ → Type 0) (may_answer is_answered is_told may_tell is_over : C → Type 0) (is_gone : Type 0) (limits : Limits) where
  end_from : (had : Option Ended) (result : Result TurnProgress Ended) (old new : WithDevices C R W) → old.session.ended ≡ had
      → Turned answers tells refuses may_answer is_answered is_told may_tell is_over is_gone limits result old new
      → IsEnd refuses is_answered old → IsEnd refuses is_answered new
  end_from None result old new had t before =
      let answer = t.answer had in
      let ends = t.ends had in
      record {
        closed = λ e. let is = answered_by result Closed (sym ends ∙ e) in (answer.closed is, answer.answered Closed is (inl refl));
        bad = λ e. let is = answered_by result BadInput (sym ends ∙ e) in (answer.bad is, answer.answered BadInput is (inr refl));
        read_faults = failed ReadFault result old.session.ended new.session.ended _ _ refl had ends before.read_faults (t.read_faults had);
        write_faults = failed WriteFault result old.session.ended new.session.ended _ _ refl had ends before.write_faults (t.write_faults had);
      }
  end_from (Some e) result old new had t before = subst (λ (s : WithDevices C R W). IsEnd refuses is_answered s) (sym (t.over e had).1) before

  -- where a session has ended after a turn it did so by right, if it was so before
  pub end_after : (result : Result TurnProgress Ended) (old new : WithDevices C R W)
      → Turned answers tells refuses may_answer is_answered is_told may_tell is_over is_gone limits result old new
      → IsEnd refuses is_answered old → IsEnd refuses is_answered new
  end_after result old new = end_from old.session.ended result old new refl
