-- No connection of a worker is out: what is known under a truncation is known.
use Rattle.std.proofs.Common.{◌≡◌, ℕ, List, [], ◌∷◌, Option, Some, None, refl}
use Rattle.std.proofs.Math.Logic.{∥∥₁_map, ∥∥₁_elim}

is_none : {A : Type 0} (o : Option A) → ∥ (o ≡ None) ∥₁ → o ≡ None
is_none None e = refl
is_none (Some x) e = absurd (∥∥₁_elim e (λ a b. absurd a) (λ h. absurd (cc)))

pub are_none : {A : Type 0} (f : ℕ → Option A) → ∥ ((key : ℕ) → f key ≡ None) ∥₁ → (key : ℕ) → f key ≡ None
are_none f e key = is_none (f key) (∥∥₁_map e (λ h. h key))

pub is_empty : {A : Type 0} (xs : List A) → ∥ (xs ≡ []) ∥₁ → xs ≡ []
is_empty [] e = refl
is_empty (x ∷ xs) e = absurd (∥∥₁_elim e (λ a b. absurd a) (λ h. absurd (cc)))
