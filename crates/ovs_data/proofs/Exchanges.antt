-- Two lists in ascending order, made into one step by step.
use Rattle.std.proofs.Common.{◌≡◌, List, [], ◌∷◌, ◌++◌, Bool, cond, refl, ap, length, drop, ℕ, ◌<◌, ◌≤◌, sym, ◌∙◌, arith}
use Rattle.std.proofs.lemmas.List.{append-nil, drop_all}
use Rattle.std.specs.declared.cmp.Ordering.{Ordering}
use Rattle.std.specs.Ordering.{match_ordering}

module _ {E : Type 0} (order : E → E → Ordering) (is_same : E → E → Bool) where
  -- x and what follows it in its list, into the other list
  abbrev pub exchange_from : E → (List E → List E) → List E → List E
  exchange_from x rest [] = x ∷ rest []
  exchange_from x rest (y ∷ ys) = match_ordering (order x y) (x ∷ rest (y ∷ ys)) (cond (is_same x y) (rest ys) (y ∷ rest ys)) (y ∷ exchange_from x rest ys)

  -- the entries of one list alone, and of the keys in both the second list's entry where the two differ
  abbrev pub exchange : List E → List E → List E
  exchange [] ys = ys
  exchange (x ∷ xs) ys = exchange_from x (exchange xs) ys

  exchange-nil : (xs : List E) → exchange xs [] ≡ xs
  exchange-nil [] = refl
  exchange-nil (x ∷ xs) = ap (λ (t : List E). x ∷ t) (exchange-nil xs)

  -- one of the lists has ended
  pub ends_left : (out xs ys all : List E) → length xs < 1 → out ++ exchange xs ys ≡ all → out ++ (xs ++ ys) ≡ all
  ends_left out [] ys all short e = e
  ends_left out (x ∷ xs) ys all short e = absurd (omega arith)

  pub ends_right : (out xs ys all : List E) → length ys < 1 → out ++ exchange xs ys ≡ all → out ++ (xs ++ ys) ≡ all
  ends_right out xs [] all short e = rw append-nil (rw exchange-nil at e)
  ends_right out xs (y ∷ ys) all short e = absurd (omega arith)

  pub all_out : (out ys all : List E) (n : ℕ) → length ys ≤ n → out ++ drop n ys ≡ all → out ≡ all
  all_out out ys all n past e = sym (append-nil out) ∙ ap (λ (rest : List E). out ++ rest) (sym (drop_all n ys past)) ∙ e
