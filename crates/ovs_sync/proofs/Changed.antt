-- A function that is changed at one number.
use Rattle.std.proofs.Common.{◌≡◌, ◌≢◌, ℕ, ◌==◌, true, false, cond, refl, ap, ⊎_elim}
use Rattle.std.proofs.lemmas.Bool.Decides.{eqb_tells}

-- f, but y at n
pub changed_at : {A : Type 0} → (ℕ → A) → ℕ → A → ℕ → A
changed_at f n y p = cond (p == n) y (f p)

pub at_same : {A : Type 0} (f : ℕ → A) (n : ℕ) (y : A) → changed_at f n y n ≡ y
unfolding changed_at
at_same f n y = ⊎_elim (λ (t : ((n == n) ≡ true) × (n ≡ n)). ap (λ b. cond b y (f n)) t.0) (λ (t : ((n == n) ≡ false) × (n ≢ n)). absurd (t.1 refl)) (eqb_tells n n)

pub at_other : {A : Type 0} (f : ℕ → A) (n : ℕ) (y : A) (p : ℕ) → p ≢ n → changed_at f n y p ≡ f p
unfolding changed_at
at_other f n y p ne = ⊎_elim (λ (t : ((p == n) ≡ true) × (p ≡ n)). absurd (ne t.1)) (λ (t : ((p == n) ≡ false) × (p ≢ n)). ap (λ b. cond b y (f p)) t.0) (eqb_tells p n)
