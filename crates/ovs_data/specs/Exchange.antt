-- Two lists of entries exchanged: the entries of a key in only one of them, and of a key in both the second list's
-- entry where the two differ.
use Rattle.std.specs.Prelude.{◌≡◌, List, [], ◌∷◌, Bool, Option, Some, None, if◌then◌else◌}
use Rattle.std.specs.declared.cmp.Ordering.{Ordering}
use Rattle.std.specs.Ordering.{match_ordering}

-- what the list has at a key
abbrev pub entry_at : {K E : Type 0} → (K → K → Ordering) → (E → K) → K → List E → Option E
entry_at order key q [] = None
entry_at order key q (x ∷ xs) = match_ordering (order q (key x)) (entry_at order key q xs) (Some x) (entry_at order key q xs)

-- what only one of the two has, and the second of two that differ
abbrev pub exchanged_at : {E : Type 0} → (E → E → Bool) → Option E → Option E → Option E
exchanged_at is_same None y = y
exchanged_at is_same (Some x) None = Some x
exchanged_at is_same (Some x) (Some y) = if is_same x y then None else Some y

-- at each key the last list has the exchange of what the other two have there
abbrev pub AreExchanged : {E : Type 0} → (E → E → Ordering) → (E → E → Bool) → List E → List E → List E → Type 0
AreExchanged {E} order is_same old new d =
    (q : E) → entry_at order (λ x. x) q d ≡ exchanged_at is_same (entry_at order (λ x. x) q old) (entry_at order (λ x. x) q new)
