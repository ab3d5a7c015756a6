-- How a turn ends.
use Rattle.std.proofs.Common.{◌≡◌, ◌⊎◌, ◌<◌, length, ⊎_elim, ℕ, List, [], Option, Ok, Err, sym, subst}
use Rattle.std.specs.Prelude.{Result}
use Rattle.ovs_session.specs.declared.ended.Ended.{Ended}
use Rattle.ovs_session.specs.declared.ended.Ended.TheVariants.{Closed, BadInput, WriteFault, Gone, Epoch, TurnsSpent}
use Rattle.ovs_session.specs.declared.limits.TurnProgress.{TurnProgress}
use Rattle.ovs_session.specs.declared.limits.TurnProgress.TheVariants.{Idle}
use Rattle.ovs_session.specs.Moving.{IsAnswer, IsBad}
use Rattle.ovs_session.specs.Serving.{SessionValue, IsDone, IsIdle}

abbrev OnlyOk : {X E : Type 0} → Result X E → Type 0
OnlyOk (Ok x) = Unit {0}
OnlyOk (Err e) = ⊥

pub no_error : {X E : Type 0} (x : X) (e : E) → ◌≡◌ {A = Result X E} (Ok x) (Err e) → ⊥
no_error {X} {E} x e is = subst (λ (r : Result X E). OnlyOk r) is tt

-- why a session has ended may be noted
pub answer_noted : {C : Type 0} (refuses : C → List ℕ → Type 0) (may_answer is_answered is_told is_over : C → Type 0) (is_gone : Type 0)
    (r : Result TurnProgress Ended) (a b : SessionValue C) (e : Option Ended)
    → b ≡ record a { ended = e } → (r ≡ Err Closed → IsDone a × is_answered a.state) → (r ≡ Err BadInput → IsBad refuses a × is_answered a.state)
    → ((x : Ended) → r ≡ Err x → (x ≡ WriteFault → ⊥) → a.unsent ≡ []) → (r ≡ Ok Idle → IsIdle may_answer is_answered a)
    → (r ≡ Ok Idle → is_told a.state ⊎ (0 < length a.unsent)) → (r ≡ Err Gone → is_gone) → (r ≡ Err Epoch → is_over a.state)
    → (r ≡ Err TurnsSpent → ⊥) → IsAnswer refuses may_answer is_answered is_told is_over is_gone r b
answer_noted refuses may_answer is_answered is_told is_over is_gone r a b e is closed bad written idle told gone epoch unspent =
    subst (λ (z : SessionValue _). IsAnswer refuses may_answer is_answered is_told is_over is_gone r z) (sym is) (record {
      closed = λ h. let done = (closed h).0 in
          record { unfed = done.unfed; waiting = done.waiting; held = done.held; unsent = done.unsent; is_at_end = done.is_at_end };
      answered = λ x h which. ⊎_elim (λ (c : x ≡ Closed). (closed (subst (λ (y : Ended). r ≡ Err y) c h)).1)
          (λ (b : x ≡ BadInput). (bad (subst (λ (y : Ended). r ≡ Err y) b h)).1) which;
      bad = λ h. (bad h).0;
      written = written;
      idle = idle;
      told = told;
      gone = gone;
      epoch = epoch;
      unspent = unspent;
    })
