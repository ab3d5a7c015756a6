-- The union of two sets or maps, and what is left of one.
use Rattle.std.proofs.Common.{◌≡◌, List, [], ◌∷◌, ◌++◌, Bool, true, false, cond, ◌||◌, ◌&&◌, Option, Some, None, Result, Ok, Err, refl, sym, ap, subst, ◌∙◌, ℕ, ◌≤◌, length, drop}
use Rattle.std.proofs.lemmas.List.{append-nil, drop_all}
use Rattle.std.specs.Prelude.{IfOk, Vec, not}
use Rattle.std.specs.List.{filter}
use Rattle.std.specs.Option.{option_or}
use Rattle.std.specs.Cmp.{IsTotalOrder, second_so}
use Rattle.std.specs.declared.alloc.Global.{Global}
use Rattle.std.specs.declared.cmp.Ordering.{Ordering}
use Rattle.std.specs.declared.cmp.Ordering.TheVariants.{Less, Equal, Greater}
use Rattle.std.specs.Ordering.{match_ordering}
use Rattle.ovs_data.specs.declared.atom.Atom.{Atom}
use Rattle.ovs_data.specs.declared.column.Column.{Column}
use Rattle.ovs_data.specs.declared.datum.pairs.Pair.{Pair}
use Rattle.ovs_data.specs.declared.datum.Datum.{Datum}
use Rattle.ovs_data.specs.declared.datum.Datum.TheVariants.{Set, Map}
use Rattle.ovs_data.specs.Ascending.{IsAscending, IsBefore, in_order}
use Rattle.ovs_data.specs.Atom.{atom_cmp, atom_eq, atom_total, kind_of}
use Rattle.ovs_data.specs.Column.{may_count, loose}
use Rattle.ovs_data.specs.Datum.{contains, value_at, has_element, datum_len, IsAlike, IsDatumOf}
use Rattle.ovs_data.specs.Exchange.{entry_at, exchanged_at, AreExchanged}
use Rattle.ovs_data.specs.Mutation.{inserted, deletes, deleted, IsUnion}
use Rattle.ovs_data.proofs.Ascends.{same_entries}
use Rattle.ovs_data.proofs.Differences.{contains-in_order, contains-append, contains-filter, value_at-in_order}
use Rattle.ovs_data.proofs.InOrder.{Ascends-in_order, at-in_order}
use Rattle.ovs_data.proofs.Writings.{later}

module _ {E : Type 0} (order : E → E → Ordering) (total : IsTotalOrder order) where
  abbrev at : E → List E → Option E
  at = entry_at order (λ x. x)

  -- what stands first is found first
  at-append : (q : E) (xs ys : List E) → at q (xs ++ ys) ≡ option_or (at q xs) (at q ys)
  at-append q [] ys = refl
  at-append q (x ∷ xs) ys =
      elim (order q x) as (λ o. match_ordering o (at q (xs ++ ys)) (Some x) (at q (xs ++ ys)) ≡ option_or (match_ordering o (at q xs) (Some x) (at q xs)) (at q ys)) [
        | Less ↦ at-append q xs ys
        | Equal ↦ refl
        | Greater ↦ at-append q xs ys
      ]

  module _ (is_same : E → E → Bool) where
    second : (o p : Option E) → exchanged_at (λ x y. not true && is_same x y) p o ≡ option_or o p
    second None None = refl
    second None (Some y) = refl
    second (Some x) None = refl
    second (Some x) (Some y) = refl

    union_of : (old other v : List E) → IsAscending order (λ x. x) v → AreExchanged order (λ x y. not true && is_same x y) other old v → v ≡ in_order order (old ++ other)
    union_of old other v ascending each =
        same_entries order total (λ (x : E). x) v (in_order order (old ++ other)) ascending (Ascends-in_order order total (λ (x : E). x) (old ++ other)) (λ q.
        each q ∙ second (at q old) (at q other) ∙ sym (at-append q old other) ∙ sym (at-in_order order total (λ (x : E). x) q (old ++ other)))

    pub joined_is : {F : Type 0} (old other : List E) (r : Result (Vec E Global) F) → IfOk r (λ v. IsAscending order (λ x. x) v.items)
        → IfOk r (λ v. AreExchanged order (λ x y. not true && is_same x y) other old v.items) → IfOk r (λ v. v.items ≡ in_order order (old ++ other))
    joined_is old other (Ok v) ascending each = union_of old other v.items ascending each
    joined_is old other (Err e) ascending each = tt

-- ---- the union

value_append : (k : Atom) (ps qs : List Pair) → value_at k (ps ++ qs) ≡ option_or (value_at k ps) (value_at k qs)
value_append k [] qs = refl
value_append k (p ∷ ps) qs =
    elim (atom_eq k p.key) as (λ b. cond b (Some p.value) (value_at k (ps ++ qs)) ≡ option_or (cond b (Some p.value) (value_at k ps)) (value_at k qs)) [
      | true ↦ refl
      | false ↦ value_append k ps qs
    ]

union_is : (a b : Datum) → IsAlike a b → IsUnion a b (inserted a b)
union_is (Set xs) (Set ys) alike = (λ x. contains-in_order x (xs ++ ys) ∙ contains-append x xs ys, λ k. refl)
union_is (Map ps) (Map qs) alike = (λ x. refl, λ k. value_at-in_order k (ps ++ qs) ∙ value_append k ps qs)
union_is (Set xs) (Map qs) alike = absurd alike
union_is (Map ps) (Set ys) alike = absurd alike

pub union_from : {F : Type 0} (a b : Datum) (r : Result Datum F) → IsAlike a b → IfOk r (λ d. d ≡ inserted a b) → IfOk r (IsUnion a b)
union_from a b (Ok d) alike is = rw is (union_is a b alike)
union_from a b (Err e) alike is = tt

either_of : (a b : Bool) → (a || b) ≡ true → (P : Type 0) → (a ≡ true → P) → (b ≡ true → P) → P
either_of true b e P f g = f refl
either_of false b e P f g = g e

one_of : (o p : Option Atom) (v : Atom) → option_or o p ≡ Some v → (P : Type 0) → (o ≡ Some v → P) → (p ≡ Some v → P) → P
one_of (Some x) p v e P f g = f e
one_of None p v e P f g = g e

inserted_kept : (c : Column) (a b : Datum) → IsAlike a b → IsDatumOf c a → IsDatumOf (loose c) b → may_count c (datum_len (inserted a b)) ≡ true → IsDatumOf c (inserted a b)
inserted_kept c (Set xs) (Set ys) alike of other count = record {
  shape = of.shape;
  order = Ascends-in_order atom_cmp atom_total (λ (x : Atom). x) (xs ++ ys);
  kinds = λ x e. either_of (contains x xs) (contains x ys) (sym ((union_is (Set xs) (Set ys) tt).0 x) ∙ e) (kind_of x ≡ c.key) (of.kinds x) (other.kinds x);
  count = count;
}
inserted_kept c (Map ps) (Map qs) alike of other count = record {
  shape = of.shape;
  order = Ascends-in_order atom_cmp atom_total (λ (p : Pair). p.key) (ps ++ qs);
  kinds = λ k v e. one_of (value_at k ps) (value_at k qs) v (sym ((union_is (Map ps) (Map qs) tt).1 k) ∙ e) ((kind_of k ≡ c.key) × (Some (kind_of v) ≡ c.value)) (of.kinds k v) (other.kinds k v);
  count = count;
}
inserted_kept c (Set xs) (Map qs) alike of other count = absurd alike
inserted_kept c (Map ps) (Set ys) alike of other count = absurd alike

pub inserted_stays : {F : Type 0} (a b : Datum) (r : Result Datum F) → IsAlike a b → IfOk r (λ d. d ≡ inserted a b)
    → (c : Column) → IsDatumOf c a → IsDatumOf (loose c) b → IfOk r (λ d. may_count c (datum_len d) ≡ true → IsDatumOf c d)
inserted_stays a b (Ok d) alike is c of other = rw is (inserted_kept c a b alike of other)
inserted_stays a b (Err e) alike is c of other = tt

-- ---- what is left

module _ {K E : Type 0} (order : K → K → Ordering) (key : E → K) (p : E → Bool) where
  before-filter : (q : K) (xs : List E) → IsBefore order key q xs → IsBefore order key q (filter p xs)
  before-filter q [] h = tt
  before-filter q (x ∷ xs) h = elim (p x) as (λ b. IsBefore order key q (cond b (x ∷ filter p xs) (filter p xs))) [ true ↦ (h.0, before-filter q xs h.1) | false ↦ before-filter q xs h.1 ]

  pub ascending-filter : (xs : List E) → IsAscending order key xs → IsAscending order key (filter p xs)
  ascending-filter [] h = tt
  ascending-filter (x ∷ xs) h =
      elim (p x) as (λ b. IsAscending order key (cond b (x ∷ filter p xs) (filter p xs))) [ true ↦ (before-filter (key x) xs h.0, ascending-filter xs h.1) | false ↦ ascending-filter xs h.1 ]

module _ {K E : Type 0} (order : K → K → Ordering) (key : E → K) (p : E → Bool) where
  pub ascending_left : (kept xs : List E) (n : ℕ) → length xs ≤ n → IsAscending order key xs → kept ++ filter p (drop n xs) ≡ filter p xs → IsAscending order key kept
  ascending_left kept xs n past a e =
      let is : kept ≡ filter p xs = sym (append-nil kept) ∙ ap (λ (rest : List E). kept ++ filter p rest) (sym (drop_all n xs past)) ∙ e in
      subst (IsAscending order key) (sym is) (ascending-filter order key p xs a)

left_value : (t : Pair → Bool) (k v : Atom) (ps : List Pair) → IsAscending atom_cmp (λ (p : Pair). p.key) ps → value_at k (filter t ps) ≡ Some v → value_at k ps ≡ Some v
left_value t k v [] a e = e
left_value t k v (p ∷ ps) a e =
    elim (t p) as (λ b. value_at k (cond b (p ∷ filter t ps) (filter t ps)) ≡ Some v → value_at k (p ∷ ps) ≡ Some v) [
      | true ↦ elim (atom_eq k p.key) as (λ s. cond s (Some p.value) (value_at k (filter t ps)) ≡ Some v → cond s (Some p.value) (value_at k ps) ≡ Some v) [
        | true ↦ λ f. f
        | false ↦ λ f. left_value t k v ps a.1 f
      ]
      | false ↦ λ f. later p ps a.0 k v (left_value t k v ps a.1 f)
    ] e

deleted_kept : (c : Column) (a b : Datum) → IsDatumOf c a → may_count c (datum_len (deleted a b)) ≡ true → IsDatumOf c (deleted a b)
deleted_kept c (Set xs) b of count = record {
  shape = of.shape;
  order = ascending-filter atom_cmp (λ (x : Atom). x) (λ x. not (has_element x b)) xs of.order;
  kinds = λ x e. of.kinds x (second_so (not (has_element x b)) (contains x xs) (sym (contains-filter (λ x. not (has_element x b)) x xs) ∙ e));
  count = count;
}
deleted_kept c (Map ps) b of count = record {
  shape = of.shape;
  order = ascending-filter atom_cmp (λ (p : Pair). p.key) (λ p. not (deletes b p)) ps of.order;
  kinds = λ k v e. of.kinds k v (left_value (λ p. not (deletes b p)) k v ps of.order e);
  count = count;
}

pub deleted_stays : {F : Type 0} (a b : Datum) (r : Result Datum F) → IfOk r (λ d. d ≡ deleted a b) → (c : Column) → IsDatumOf c a → IfOk r (λ d. may_count c (datum_len d) ≡ true → IsDatumOf c d)
deleted_stays a b (Ok d) is c of = rw is (deleted_kept c a b of)
deleted_stays a b (Err e) is c of = tt
