-- Sessions that a worker served.
use Rattle.std.proofs.Common.{◌≡◌, ◌∙◌, ap, List, [], ◌∷◌, Option, Some, inl, inr, subst, sym}
use Rattle.std.specs.List.{AllByRecursion}
use Rattle.std.proofs.Math.Logic.{∥∥₁_map₂}
use Rattle.ovs_worker.specs.Slots.{EndsSo}
use Rattle.ovs_session.specs.declared.ended.Ended.{Ended}
use Rattle.ovs_session.specs.declared.ended.Ended.TheVariants.{Closed, ReadFault, WriteFault, BadInput, TurnsSpent, Gone, Epoch, NoMemory}

-- what follows of each holds of all
pub all_kept : {A : Type 0} (E P : A → Type 0) → ((a : A) → E a → ∥ P a ∥₁) → (list : List A) → AllByRecursion E list → ∥ AllByRecursion P list ∥₁
all_kept E P each [] all = ∣ tt ∣₁
all_kept E P each (a ∷ list) all = ∥∥₁_map₂ (each a all.0) (all_kept E P each list all.1) (λ p ps. (p, ps))

abbrev IsGone : Ended → Type 0
IsGone Closed = ⊥
IsGone ReadFault = ⊥
IsGone WriteFault = ⊥
IsGone BadInput = ⊥
IsGone TurnsSpent = ⊥
IsGone Gone = Unit {0}
IsGone Epoch = ⊥
IsGone NoMemory = ⊥

-- a session that is told to have ended so, and isn't gone, keeps that
pub ends_closed : (ended : Ended) (kept : Option Ended) → EndsSo ended kept → ended ≡ Closed → kept ≡ Some Closed
ends_closed ended kept (inl is) e = is ∙ ap Some e
ends_closed ended kept (inr (none, gone)) e = absurd (subst IsGone (sym gone ∙ e) tt)

pub ends_bad : (ended : Ended) (kept : Option Ended) → EndsSo ended kept → ended ≡ BadInput → kept ≡ Some BadInput
ends_bad ended kept (inl is) e = is ∙ ap Some e
ends_bad ended kept (inr (none, gone)) e = absurd (subst IsGone (sym gone ∙ e) tt)
