-- The entries of a list in ascending order, and a sorted list in which no two tie.
use Rattle.std.proofs.Common.{◌≡◌, suc, ◌+◌, ◌<◌, ◌≤◌, List, [], ◌∷◌, length, true, false, ◌||◌, ◌&&◌, refl, sym, ap, ◌∙◌, arith, Option, Some, None, eqb}
use Rattle.std.specs.Prelude.{is_some, All}
use Rattle.std.proofs.lemmas.Bool.{eq-eqb, ne_eqb}
use native.Mathlib.Numerals.{unary_clauses}
use Rattle.std.proofs.lemmas.List.Elements.{All-head, All-tail, All-from_recursion}
use Rattle.std.proofs.lemmas.List.Sorted.{list_any-IsPermutation, length_permutation, All-permutation, IsPermutation-sym}
use Rattle.std.proofs.lemmas.Cmp.{tied_itself, tied_back, alike_right}
use Rattle.std.specs.List.{list_any, AllByRecursion}
use Rattle.std.specs.List.Sorted.{IsPermutation, IsSorted}
use Rattle.std.specs.Cmp.{IsTotalOrder, first_so, second_so}
use Rattle.std.specs.declared.cmp.Ordering.{Ordering}
use Rattle.std.specs.declared.cmp.Ordering.TheVariants.{Less, Equal, Greater}
use Rattle.std.specs.Ordering.{match_ordering, is_eq, is_lt, ordering_reverse}
use Rattle.ovs_data.specs.Ascending.{IsAscending, IsBefore, ascends, put_entry, in_order, distinct}
use Rattle.ovs_data.specs.Exchange.{entry_at}
use Rattle.ovs_data.proofs.Ascends.{IsBefore-trans, IsBefore-tied, entry_at-before, same_entries, flip_greater}

less_from : (o : Ordering) → is_lt o ≡ true → o ≡ Less
less_from Less e = refl
less_from Equal e = absurd cc
less_from Greater e = absurd cc

module _ {K E : Type 0} (order : K → K → Ordering) (total : IsTotalOrder order) (key : E → K) where
  abbrev by_key : E → E → Ordering
  by_key x y = order (key x) (key y)

  abbrev at : K → List E → Option E
  at = entry_at order key

  abbrev put : E → List E → List E
  put = put_entry by_key

  abbrev ordered : List E → List E
  ordered = in_order by_key

  abbrev Ascends : List E → Type 0
  Ascends = IsAscending order key

  abbrev Before : K → List E → Type 0
  Before = IsBefore order key

  pub ascending_from : (xs : List E) → ascends by_key xs ≡ true → Ascends xs
  ascending_from [] e = tt
  ascending_from (x ∷ []) e = (tt, tt)
  ascending_from (x ∷ y ∷ ys) e =
      let less : by_key x y ≡ Less = less_from (by_key x y) (first_so (is_lt (by_key x y)) (ascends by_key (y ∷ ys)) e) in
      let rest : Ascends (y ∷ ys) = ascending_from (y ∷ ys) (second_so (is_lt (by_key x y)) (ascends by_key (y ∷ ys)) e) in
      ((less, IsBefore-trans order total key (key x) (key y) ys less rest.0), rest)

  -- ---- putting an entry among others

  Before-put : (q : K) (x : E) (ys : List E) → order q (key x) ≡ Less → Before q ys → Before q (put x ys)
  Before-put q x [] lt h = (lt, tt)
  Before-put q x (y ∷ ys) lt h =
      elim (by_key x y) as (λ o. Before q (match_ordering o (x ∷ y ∷ ys) (x ∷ ys) (y ∷ put x ys))) [
        | Less ↦ (lt, h)
        | Equal ↦ (lt, h.1)
        | Greater ↦ (h.0, Before-put q x ys lt h.1)
      ]

  Ascends-put : (x : E) (ys : List E) → Ascends ys → Ascends (put x ys)
  Ascends-put x [] h = (tt, tt)
  Ascends-put x (y ∷ ys) h =
      elim (by_key x y) as (λ o. by_key x y ≡ o → Ascends (match_ordering o (x ∷ y ∷ ys) (x ∷ ys) (y ∷ put x ys))) [
        | Less ↦ λ e. ((e, IsBefore-trans order total key (key x) (key y) ys e h.0), h)
        | Equal ↦ λ e. (IsBefore-tied order total key (key x) (key y) ys e h.0, h.1)
        | Greater ↦ λ e. (Before-put (key y) x ys (total.antisymm (key y) (key x) ∙ ap ordering_reverse e) h.0, Ascends-put x ys h.1)
      ] refl

  pub Ascends-in_order : (xs : List E) → Ascends (ordered xs)
  Ascends-in_order [] = tt
  Ascends-in_order (x ∷ xs) = Ascends-put x (ordered xs) (Ascends-in_order xs)

  -- what one more entry makes of what stands at a key
  abbrev one_more : K → E → Option E → Option E
  one_more q x o = match_ordering (order q (key x)) o (Some x) o

  replaced : (q : K) (x y : E) (ys : List E) → order q (key x) ≡ order q (key y) → at q (x ∷ ys) ≡ one_more q x (at q (y ∷ ys))
  replaced q x y ys alike =
      rw (← alike) (elim (order q (key x)) as (λ o. match_ordering o (at q ys) (Some x) (at q ys) ≡ match_ordering o (match_ordering o (at q ys) (Some y) (at q ys)) (Some x) (match_ordering o (at q ys) (Some y) (at q ys))) [
        | Less ↦ refl
        | Equal ↦ refl
        | Greater ↦ refl
      ])

  swapped : (q : K) (x y : E) (o : Option E) → by_key x y ≡ Greater → one_more q y (one_more q x o) ≡ one_more q x (one_more q y o)
  swapped q x y o e =
      elim (order q (key y)) as (λ d. order q (key y) ≡ d → match_ordering d (one_more q x o) (Some y) (one_more q x o) ≡ one_more q x (match_ordering d o (Some y) o)) [
        | Less ↦ λ d. refl
        | Equal ↦ λ d.
            elim (order q (key x)) as (λ f. order q (key x) ≡ f → Some y ≡ match_ordering f (Some y) (Some x) (Some y)) [
              | Less ↦ λ f. refl
              | Equal ↦ λ f. absurd (let clash = sym e ∙ total.congr (key x) q (key y) (tied_back total q (key x) f) ∙ d in cc)
              | Greater ↦ λ f. refl
            ] refl
        | Greater ↦ λ d. refl
      ] refl

  at-put : (q : K) (x : E) (ys : List E) → at q (put x ys) ≡ one_more q x (at q ys)
  at-put q x [] = refl
  at-put q x (y ∷ ys) =
      elim (by_key x y) as (λ o. by_key x y ≡ o → at q (match_ordering o (x ∷ y ∷ ys) (x ∷ ys) (y ∷ put x ys)) ≡ one_more q x (at q (y ∷ ys))) [
        | Less ↦ λ e. refl
        | Equal ↦ λ e. replaced q x y ys (alike_right total (key x) (key y) q e)
        | Greater ↦ λ e. ap (one_more q y) (at-put q x ys) ∙ swapped q x y (at q ys) e
      ] refl

  -- a list in order has at a key what the list had there first
  pub at-in_order : (q : K) (xs : List E) → at q (ordered xs) ≡ at q xs
  at-in_order q [] = refl
  at-in_order q (x ∷ xs) = at-put q x (ordered xs) ∙ ap (one_more q x) (at-in_order q xs)

  pub in_order-ascending : (ys : List E) → Ascends ys → ordered ys ≡ ys
  in_order-ascending ys h = same_entries order total key (ordered ys) ys (Ascends-in_order ys) h (λ q. at-in_order q ys)

  -- ---- how many there are

  pub length-put : (x : E) (ys : List E) → length (put x ys) ≤ length ys + 1
  length-put x [] = omega arith
  length-put x (y ∷ ys) =
      elim (by_key x y) as (λ o. length (match_ordering o (x ∷ y ∷ ys) (x ∷ ys) (y ∷ put x ys)) ≤ length (y ∷ ys) + 1) [
        | Less ↦ omega arith
        | Equal ↦ omega arith
        | Greater ↦ omega (arith, length-put x ys)
      ]

  pub length-in_order : (xs : List E) → length (ordered xs) ≤ length xs
  length-in_order [] = omega arith
  length-in_order (x ∷ xs) = omega (arith, length-put x (ordered xs), length-in_order xs)

  -- an entry that ties takes the other's place
  length-put_tied : (x y : E) (zs : List E) → by_key x y ≡ Equal → length (put x (put y zs)) ≡ length (put y zs)
  length-put_tied x y [] e = rw e refl
  length-put_tied x y (z ∷ zs) e =
      let alike : by_key x z ≡ by_key y z = total.congr (key x) (key y) (key z) e in
      elim (by_key y z) as (λ o. by_key x z ≡ o → length (put x (match_ordering o (y ∷ z ∷ zs) (y ∷ zs) (z ∷ put y zs))) ≡ length (match_ordering o (y ∷ z ∷ zs) (y ∷ zs) (z ∷ put y zs))) [
        | Less ↦ λ f. rw e refl
        | Equal ↦ λ f. rw e refl
        | Greater ↦ λ f. rw f (ap suc (length-put_tied x y zs e))
      ] alike

  -- a sorted list that doesn't ascend has two entries that tie
  module _ (cmp : E → E → Ordering) (refines : (x y : E) → by_key x y ≡ Less → cmp x y ≡ Less) where
    fewer : (xs : List E) → IsSorted cmp xs → ascends by_key xs ≡ false → length (ordered xs) < length xs
    fewer [] sorted e = absurd cc
    fewer (x ∷ []) sorted e = absurd cc
    fewer (x ∷ y ∷ ys) sorted e =
        elim (by_key x y) as (λ o. by_key x y ≡ o → (is_lt o && ascends by_key (y ∷ ys)) ≡ false → length (ordered (x ∷ y ∷ ys)) < length (x ∷ y ∷ ys)) [
          | Less ↦ λ o f. omega (arith, length-put x (ordered (y ∷ ys)), fewer (y ∷ ys) (λ k d low high. simp unary_clauses (simp unary_clauses at (sorted (suc k) d (omega arith) (omega arith)))) f)
          | Equal ↦ λ o f. omega (arith, length-put_tied x y (ordered ys) o, length-put y (ordered ys), length-in_order ys)
          | Greater ↦ λ o f.
              let lt : cmp y x ≡ Less = refines y x (total.antisymm (key y) (key x) ∙ ap ordering_reverse o) in
              absurd (let clash = rw lt at (sorted 0 x (omega arith) (omega arith)) in cc)
        ] refl e

  -- ---- lists of the same entries

  same_length : (xs ys : List E) → Ascends xs → Ascends ys → ((q : K) → is_some (at q xs) ≡ is_some (at q ys)) → length xs ≡ length ys
  same_length [] [] a b h = refl
  same_length [] (y ∷ ys) a b h = absurd (let e = rw (tied_itself total (key y)) at (h (key y)) in cc)
  same_length (x ∷ xs) [] a b h = absurd (let e = rw (tied_itself total (key x)) at (h (key x)) in cc)
  same_length (x ∷ xs) (y ∷ ys) a b h =
      elim (by_key x y) as (λ o. by_key x y ≡ o → length (x ∷ xs) ≡ length (y ∷ ys)) [
        | Less ↦ λ e. absurd (
            let gone : at (key x) ys ≡ None = entry_at-before order total key (key x) ys (IsBefore-trans order total key (key x) (key y) ys e b.0) in
            let clash = rw (tied_itself total (key x), e, gone) at (h (key x)) in cc)
        | Equal ↦ λ e.
            let others : (q : K) → is_some (at q xs) ≡ is_some (at q ys) = λ q.
            let alike : order q (key x) ≡ order q (key y) = alike_right total (key x) (key y) q e in
            elim (order q (key x)) as (λ o. order q (key x) ≡ o → is_some (at q xs) ≡ is_some (at q ys)) [
              | Less ↦ λ d. let d' : order q (key y) ≡ Less = sym alike ∙ d in rw (d, d') at (h q)
              | Equal ↦ λ d.
                  ap is_some (entry_at-before order total key q xs (IsBefore-tied order total key q (key x) xs d a.0)
                  ∙ sym (entry_at-before order total key q ys (IsBefore-tied order total key q (key y) ys (sym alike ∙ d) b.0)))
              | Greater ↦ λ d. let d' : order q (key y) ≡ Greater = sym alike ∙ d in rw (d, d') at (h q)
            ] refl in
            ap suc (same_length xs ys a.1 b.1 others)
        | Greater ↦ λ e. absurd (
            let lt : order (key y) (key x) ≡ Less = flip_greater order total key (key x) (key y) e in
            let gone : at (key y) xs ≡ None = entry_at-before order total key (key y) xs (IsBefore-trans order total key (key y) (key x) xs lt a.0) in
            let clash = rw (tied_itself total (key y), lt, gone) at (h (key y)) in cc)
      ] refl

  has_key : (q : K) (xs : List E) → is_some (at q xs) ≡ list_any (λ x. is_eq (order q (key x))) xs
  has_key q [] = refl
  has_key q (x ∷ xs) =
      elim (order q (key x)) as (λ o. is_some (match_ordering o (at q xs) (Some x) (at q xs)) ≡ (is_eq o || list_any (λ y. is_eq (order q (key y))) xs)) [
        | Less ↦ has_key q xs
        | Equal ↦ refl
        | Greater ↦ has_key q xs
      ]

  same_keys : (q : K) (xs ys : List E) → IsPermutation xs ys → is_some (at q xs) ≡ is_some (at q ys)
  same_keys q xs ys p = has_key q xs ∙ list_any-IsPermutation (λ x. is_eq (order q (key x))) xs ys p ∙ sym (has_key q ys)

  length-permuted : (xs ys : List E) → IsPermutation xs ys → length (ordered xs) ≡ length (ordered ys)
  length-permuted xs ys p =
      same_length (ordered xs) (ordered ys) (Ascends-in_order xs) (Ascends-in_order ys) (λ q.
      ap is_some (at-in_order q xs) ∙ same_keys q xs ys p ∙ sym (ap is_some (at-in_order q ys)))

  -- keys that tie have the same
  at-tied : (q r : K) (ys : List E) → order q r ≡ Equal → at q ys ≡ at r ys
  at-tied q r [] e = refl
  at-tied q r (y ∷ ys) e =
      ap (λ o. match_ordering o (at q ys) (Some y) (at q ys)) (total.congr q r (key y) e)
      ∙ ap (λ o. match_ordering (order r (key y)) o (Some y) o) (at-tied q r ys e)

  abbrev stands : List E → E → Type 0
  stands ys x = at (key x) ys ≡ Some x

  stands-later : (x : E) (xs : List E) → Before (key x) xs → (y : E) → stands xs y → stands (x ∷ xs) y
  stands-later x xs b y h =
      elim (order (key y) (key x)) as (λ o. order (key y) (key x) ≡ o → match_ordering o (at (key y) xs) (Some x) (at (key y) xs) ≡ Some y) [
        | Less ↦ λ e. h
        | Equal ↦ λ e. absurd (
            let gone : at (key y) xs ≡ None = entry_at-before order total key (key y) xs (IsBefore-tied order total key (key y) (key x) xs e b) in
            let clash = sym gone ∙ h in cc)
        | Greater ↦ λ e. h
      ] refl

  all_later : (x : E) (xs : List E) → Before (key x) xs → (ys : List E) → AllByRecursion (stands xs) ys → AllByRecursion (stands (x ∷ xs)) ys
  all_later x xs b [] h = tt
  all_later x xs b (y ∷ ys) h = (stands-later x xs b y h.0, all_later x xs b ys h.1)

  -- in an ascending list each entry stands at its key
  all_stand : (ys : List E) → Ascends ys → AllByRecursion (stands ys) ys
  all_stand [] a = tt
  all_stand (y ∷ ys) a = (rw (tied_itself total (key y)) refl, all_later y ys a.0 ys (all_stand ys a.1))

  at-some : (ys : List E) (q : K) (xs : List E) → All (stands ys) xs → (x : E) → at q xs ≡ Some x → at q ys ≡ Some x
  at-some ys q [] h x e = absurd cc
  at-some ys q (z ∷ zs) h x e =
      elim (order q (key z)) as (λ o. order q (key z) ≡ o → match_ordering o (at q zs) (Some z) (at q zs) ≡ Some x → at q ys ≡ Some x) [
        | Less ↦ λ d f. at-some ys q zs (All-tail (stands ys) z zs h) x f
        | Equal ↦ λ d f. at-tied q (key z) ys d ∙ All-head (stands ys) z zs h ∙ f
        | Greater ↦ λ d f. at-some ys q zs (All-tail (stands ys) z zs h) x f
      ] refl e

  same_option : (o p : Option E) → is_some o ≡ is_some p → ((x : E) → o ≡ Some x → p ≡ Some x) → o ≡ p
  same_option None None e h = refl
  same_option None (Some y) e h = absurd cc
  same_option (Some x) p e h = sym (h x refl)

  -- a list has at each key what a permutation of it has that ascends
  at-permuted : (q : K) (xs ys : List E) → IsPermutation xs ys → Ascends ys → at q xs ≡ at q ys
  at-permuted q xs ys p a =
      same_option (at q xs) (at q ys) (same_keys q xs ys p) (λ x e.
      at-some ys q xs (All-permutation (stands ys) ys xs (IsPermutation-sym xs ys p) (All-from_recursion (stands ys) ys (all_stand ys a))) x e)

  -- ---- what sorting and looking at neighbours finds

  pub found : (xs ys : List E) → IsPermutation xs ys → ascends by_key ys ≡ true → Some ys ≡ distinct by_key xs
  found xs ys p e =
      let a : Ascends ys = ascending_from ys e in
      let same : ordered xs ≡ ys = same_entries order total key (ordered xs) ys (Ascends-in_order xs) a (λ q. at-in_order q xs ∙ at-permuted q xs ys p a) in
      let all : eqb (length (ordered xs)) (length xs) ≡ true = eq-eqb _ _ (ap length same ∙ length_permutation xs ys p) in
      rw (all, same) refl

  pub repeated : (cmp : E → E → Ordering) (refines : (x y : E) → by_key x y ≡ Less → cmp x y ≡ Less) (xs ys : List E)
      → IsPermutation xs ys → IsSorted cmp ys → ascends by_key ys ≡ false → None ≡ distinct by_key xs
  repeated cmp refines xs ys p sorted e =
      let few : length (ordered ys) < length ys = fewer cmp refines ys sorted e in
      let same : length (ordered xs) ≡ length (ordered ys) = length-permuted xs ys p in
      let long : length ys ≡ length xs = length_permutation xs ys p in
      let all : eqb (length (ordered xs)) (length xs) ≡ false = ne_eqb _ _ (λ h. omega (arith, few, same, long, h)) in
      rw all refl
