-- Fewer entries in order than listed, exactly where two keys of the list are equal.
use Rattle.std.proofs.Common.{◌≡◌, ℕ, zero, suc, ◌+◌, ◌<◌, List, [], ◌∷◌, length, map, true, false, cond, Option, Some, None, refl, sym, ap, ◌∙◌, arith, eqb, inl, inr}
use Rattle.std.specs.Prelude.{slice_get, ◌⊎◌}
use Rattle.std.proofs.lemmas.Bool.{ne_eqb, eqb-false}
use Rattle.std.proofs.lemmas.Cmp.{tied_itself}
use Rattle.std.specs.Cmp.{IsTotalOrder}
use Rattle.std.specs.declared.cmp.Ordering.{Ordering}
use Rattle.std.specs.declared.cmp.Ordering.TheVariants.{Less, Equal, Greater}
use Rattle.std.specs.Ordering.{match_ordering}
use Rattle.ovs_data.specs.Ascending.{IsAscending, put_entry, in_order, distinct}
use Rattle.ovs_data.specs.Exchange.{entry_at}
use Rattle.ovs_data.proofs.Ascends.{IsBefore-trans, entry_at-before}
use Rattle.ovs_data.proofs.InOrder.{Ascends-in_order, at-in_order, length-put, length-in_order}

module _ {K E : Type 0} (order : K → K → Ordering) (total : IsTotalOrder order) (exact : (p q : K) → order p q ≡ Equal → p ≡ q) (key : E → K) where
  abbrev by_key : E → E → Ordering
  by_key x y = order (key x) (key y)

  abbrev at : K → List E → Option E
  at = entry_at order key

  abbrev put : E → List E → List E
  put = put_entry by_key

  abbrev ordered : List E → List E
  ordered = in_order by_key

  length-put_new : (x : E) (ys : List E) → at (key x) ys ≡ None → length (put x ys) ≡ length ys + 1
  length-put_new x [] e = refl
  length-put_new x (y ∷ ys) e =
      elim (by_key x y) as (λ o. match_ordering o (at (key x) ys) (Some y) (at (key x) ys) ≡ None → length (match_ordering o (x ∷ y ∷ ys) (x ∷ ys) (y ∷ put x ys)) ≡ length (y ∷ ys) + 1) [
        | Less ↦ λ f. omega arith
        | Equal ↦ λ f. absurd cc
        | Greater ↦ λ f. omega (arith, length-put_new x ys f)
      ] e

  length-put_again : (x y : E) (ys : List E) → IsAscending order key ys → at (key x) ys ≡ Some y → length (put x ys) ≡ length ys
  length-put_again x y [] a e = absurd cc
  length-put_again x y (z ∷ zs) a e =
      elim (by_key x z) as (λ o. by_key x z ≡ o → match_ordering o (at (key x) zs) (Some z) (at (key x) zs) ≡ Some y → length (match_ordering o (x ∷ z ∷ zs) (x ∷ zs) (z ∷ put x zs)) ≡ length (z ∷ zs)) [
        | Less ↦ λ d f. absurd (let gone : at (key x) zs ≡ None = entry_at-before order total key (key x) zs (IsBefore-trans order total key (key x) (key z) zs d a.0) in let clash = sym gone ∙ f in cc)
        | Equal ↦ λ d f. refl
        | Greater ↦ λ d f. ap suc (length-put_again x y zs a.1 f)
      ] refl e

  -- an entry whose key stands again behind it
  abbrev Again : List E → Type 0
  Again [] = ⊥
  Again (x ∷ xs) = ((y : E) × (at (key x) xs ≡ Some y)) ⊎ Again xs

  fewer : (xs : List E) → Again xs → length (ordered xs) < length xs
  fewer [] again = absurd again
  fewer (x ∷ xs) (inl (y, e)) =
      let there : at (key x) (ordered xs) ≡ Some y = at-in_order order total key (key x) xs ∙ e in
      omega (arith, length-put_again x y (ordered xs) (Ascends-in_order order total key xs) there, length-in_order order total key xs)
  fewer (x ∷ xs) (inr again) = omega (arith, length-put order total key x (ordered xs), fewer xs again)

  again_by : (x : E) (xs : List E) (o : Option E) → at (key x) xs ≡ o → length (ordered (x ∷ xs)) < length (x ∷ xs) → (length (ordered xs) < length xs → Again xs) → Again (x ∷ xs)
  again_by x xs (Some y) e less later = inl (y, e)
  again_by x xs None e less later =
      let gone : at (key x) (ordered xs) ≡ None = at-in_order order total key (key x) xs ∙ e in
      inr (later (omega (arith, less, length-put_new x (ordered xs) gone)))

  again : (xs : List E) → length (ordered xs) < length xs → Again xs
  again [] less = absurd (omega (arith, less))
  again (x ∷ xs) less = again_by x xs (at (key x) xs) refl less (again xs)

  -- ---- places

  abbrev Repeated : List K → Type 0
  Repeated ks = (i : ℕ) × (j : ℕ) × (k : K) × (i < j) × (slice_get ks i ≡ Some k) × (slice_get ks j ≡ Some k)

  at-place : (q : K) (xs : List E) (y : E) → at q xs ≡ Some y → (j : ℕ) × (slice_get (map key xs) j ≡ Some q)
  at-place q [] y e = absurd cc
  at-place q (x ∷ xs) y e =
      elim (order q (key x)) as (λ o. order q (key x) ≡ o → match_ordering o (at q xs) (Some x) (at q xs) ≡ Some y → (j : ℕ) × (slice_get (map key (x ∷ xs)) j ≡ Some q)) [
        | Less ↦ λ d f. let p = at-place q xs y f in (suc p.0, p.1)
        | Equal ↦ λ d f. (0, ap Some (sym (exact q (key x) d)))
        | Greater ↦ λ d f. let p = at-place q xs y f in (suc p.0, p.1)
      ] refl e

  place-at : (q : K) (xs : List E) (j : ℕ) → slice_get (map key xs) j ≡ Some q → (y : E) × (at q xs ≡ Some y)
  place-at q [] j e = absurd cc
  place-at q (x ∷ xs) zero e = let same : q ≡ key x = cc in (x, rw (same, tied_itself total (key x)) refl)
  place-at q (x ∷ xs) (suc j) e =
      let p = place-at q xs j e in
      elim (order q (key x)) as (λ o. (y : E) × (match_ordering o (at q xs) (Some x) (at q xs) ≡ Some y)) [
        | Less ↦ p
        | Equal ↦ (x, refl)
        | Greater ↦ p
      ]

  repeated : (xs : List E) → Again xs → Repeated (map key xs)
  repeated [] again = absurd again
  repeated (x ∷ xs) (inl (y, e)) = let p = at-place (key x) xs y e in (0, suc p.0, key x, omega arith, refl, p.1)
  repeated (x ∷ xs) (inr again) = let p = repeated xs again in (suc p.0, suc p.1, p.2, omega (arith, p.3), p.4, p.5)

  stands_again : (xs : List E) (i j : ℕ) (k : K) → i < j → slice_get (map key xs) i ≡ Some k → slice_get (map key xs) j ≡ Some k → Again xs
  stands_again [] i j k less e f = absurd cc
  stands_again (x ∷ xs) i zero k less e f = absurd (omega (arith, less))
  stands_again (x ∷ xs) zero (suc j) k less e f = let same : key x ≡ k = cc in inl (place-at (key x) xs j (f ∙ ap Some (sym same)))
  stands_again (x ∷ xs) (suc i) (suc j) k less e f = inr (stands_again xs i j k (omega (arith, less)) e f)

  -- ---- what `distinct` finds

  pub none_repeated : (xs : List E) → distinct by_key xs ≡ None → Repeated (map key xs)
  none_repeated xs e =
      repeated xs (again xs (
      elim (eqb (length (ordered xs)) (length xs)) as (λ b. eqb (length (ordered xs)) (length xs) ≡ b → cond b (Some (ordered xs)) None ≡ None → length (ordered xs) < length xs) [
        | true ↦ λ d f. absurd cc
        | false ↦ λ d f. omega (arith, length-in_order order total key xs, eqb-false _ _ d)
      ] refl e))

  pub repeated_none : (xs : List E) → Repeated (map key xs) → distinct by_key xs ≡ None
  repeated_none xs (i, j, k, less, e, f) =
      let fewer_there : length (ordered xs) < length xs = fewer xs (stands_again xs i j k less e f) in
      rw (ne_eqb (length (ordered xs)) (length xs) (λ same. absurd (omega (arith, fewer_there, same)))) refl
