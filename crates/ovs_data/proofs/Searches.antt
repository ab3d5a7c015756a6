-- What a search in a list whose keys ascend finds.
use Rattle.std.proofs.Common.{◌≡◌, ℕ, zero, suc, ◌+◌, ◌<◌, ◌≤◌, List, [], ◌∷◌, Option, Some, None, Result, Ok, Err, refl, sym, ap, ◌∙◌, ◌⊎◌, inl, inr, length, get_or, arith}
use Rattle.std.proofs.lemmas.Cmp.{tied_back}
use Rattle.std.proofs.lemmas.List.Sorted.{searchable_from_sorted}
use Rattle.std.proofs.lemmas.Bool.{cases_order}
use Rattle.std.specs.List.Sorted.{IsSortedBy, IsPartitionPoint, IsSearchInRange, IsBinarySearchResult}
use Rattle.std.specs.Borrow.{Bor}
use Rattle.std.specs.Prelude.{is_some}
use Rattle.std.specs.Option.{option_copied}
use Rattle.std.specs.Ordering.{match_ordering, ordering_reverse, is_lt}
use Rattle.std.specs.Result.{result_ok}
use Rattle.std.specs.Cmp.{IsTotalOrder}
use Rattle.std.specs.declared.cmp.Ordering.{Ordering}
use Rattle.std.specs.declared.cmp.Ordering.TheVariants.{Less, Equal, Greater}
use Rattle.ovs_data.specs.Ascending.{IsBefore, IsAscending}
use Rattle.ovs_data.specs.Exchange.{entry_at}

-- what is lent is there exactly where its copy is
pub is_some-copied : {X : Type 0} (o : Option (Bor X)) → is_some o ≡ is_some (option_copied o)
is_some-copied None = refl
is_some-copied (Some x) = refl

module _ {K E : Type 0} (order : K → K → Ordering) (total : IsTotalOrder order) (key : E → K) where
  -- how the entry at a number compares with a key
  abbrev pub by_key : K → E → Ordering
  by_key q x = order (key x) q

  abbrev at : K → List E → Option E
  at = entry_at order key

  -- ---- keys by their numbers

  before_at : (q : K) (xs : List E) → IsBefore order key q xs → (j : ℕ) (d : E) → j < length xs → order q (key (get_or xs j d)) ≡ Less
  before_at q [] h j d within = absurd (omega arith)
  before_at q (x ∷ xs) h zero d within = h.0
  before_at q (x ∷ xs) h (suc j) d within = before_at q xs h.1 j d (omega arith)

  -- of two numbers the lower one has the earlier key
  abbrev pub KeysAscend : List E → Type 0
  KeysAscend xs = (i j : ℕ) (d : E) → i < j → j < length xs → order (key (get_or xs i d)) (key (get_or xs j d)) ≡ Less

  less_at : (xs : List E) → IsAscending order key xs → KeysAscend xs
  less_at [] h i j d up within = absurd (omega arith)
  less_at (x ∷ xs) h i zero d up within = absurd (omega arith)
  less_at (x ∷ xs) h zero (suc j) d up within = before_at (key x) xs h.0 j d (omega arith)
  less_at (x ∷ xs) h (suc i) (suc j) d up within = less_at xs h.1 i j d (omega arith) (omega arith)

  sorted_by_key : (xs : List E) → KeysAscend xs → IsSortedBy (λ x y. is_lt (order (key x) (key y))) xs
  sorted_by_key xs h k d low within =
      let x = get_or xs k d in
      let y = get_or xs (k + 1) d in
      let before : order (key x) (key y) ≡ Less = h k (k + 1) d (omega arith) (omega (arith, within)) in
      ap is_lt (total.antisymm (key y) (key x) ∙ ap ordering_reverse before)

  -- ---- what stands at a key

  stands_at : (q : K) (xs : List E) → IsAscending order key xs → (j : ℕ) (d : E) → j < length xs → by_key q (get_or xs j d) ≡ Equal → at q xs ≡ Some (get_or xs j d)
  stands_at q [] h j d within same = absurd (omega arith)
  stands_at q (x ∷ xs) h zero d within same = rw (tied_back total (key x) q same) refl
  stands_at q (x ∷ xs) h (suc j) d within same =
      let z = get_or xs j d in
      let before : order (key x) (key z) ≡ Less = before_at (key x) xs h.0 j d (omega arith) in
      let after : order q (key x) ≡ Greater = sym (total.congr (key z) q (key x) same) ∙ total.antisymm (key z) (key x) ∙ ap ordering_reverse before in
      rw after (stands_at q xs h.1 j d (omega arith) same)

  none_at : (q : K) (xs : List E) → ((j : ℕ) (d : E) → j < length xs → by_key q (get_or xs j d) ≡ Equal → ⊥) → at q xs ≡ None
  none_at q [] absent = refl
  none_at q (x ∷ xs) absent =
      let later : at q xs ≡ None = none_at q xs (λ j d within. absent (suc j) d (omega arith)) in
      elim (order q (key x)) as (λ o. order q (key x) ≡ o → match_ordering o (at q xs) (Some x) (at q xs) ≡ None) [
        | Less ↦ λ e. later
        | Equal ↦ λ e. absurd (absent 0 x (omega arith) (tied_back total q (key x) e))
        | Greater ↦ λ e. later
      ] refl

  -- no key ties, where the search ended between what comes before it and what comes after
  not_between : (q : K) (xs : List E) (i : ℕ) → IsPartitionPoint (λ x. by_key q x ≡ Less) (λ x. by_key q x ≡ Greater) xs i
      → (j : ℕ) (d : E) → j < length xs → by_key q (get_or xs j d) ≡ Equal → ⊥
  not_between q xs i sides j d within same = by_side (cases_order j i)
    where
      behind : i ≤ j → ⊥
      behind up = let greater : by_key q (get_or xs j d) ≡ Greater = sides.1 j d up within in cc

      by_side : ((j ≡ i) ⊎ ((j < i) ⊎ (i < j))) → ⊥
      by_side (inl here) = behind (omega (arith, here))
      by_side (inr (inl before)) = let less : by_key q (get_or xs j d) ≡ Less = sides.0 j d (omega arith) before in cc
      by_side (inr (inr after)) = behind (omega (arith, after))

  -- where a search found none no key ties
  pub none_tied : (xs : List E) → KeysAscend xs → (q : K) (i : ℕ) → IsBinarySearchResult (by_key q) xs (Err i) → (j : ℕ) (d : E) → j < length xs → by_key q (get_or xs j d) ≡ Equal → ⊥
  none_tied xs h q i place = not_between q xs i (place (searchable_from_sorted total key xs q (sorted_by_key xs h)))

  -- ---- what a search finds

  pub search_found : (xs : List E) → IsAscending order key xs → (q : K) (r : Result ℕ ℕ) → IsSearchInRange r (length xs) → IsBinarySearchResult (by_key q) xs r
      → (i : ℕ) → result_ok r ≡ Some i → (d : E) → at q xs ≡ Some (get_or xs i d)
  search_found xs h q (Err j) within place i e d = absurd cc
  search_found xs h q (Ok j) within place i e d =
      let number : j ≡ i = cc in
      stands_at q xs h j d within (place d) ∙ λ k. Some (get_or xs (number k) d)

  pub search_absent : (xs : List E) → IsAscending order key xs → (q : K) (r : Result ℕ ℕ) → IsBinarySearchResult (by_key q) xs r → result_ok r ≡ None → at q xs ≡ None
  search_absent xs h q (Ok i) place e = absurd cc
  search_absent xs h q (Err i) place e = none_at q xs (none_tied xs (less_at xs h) q i place)
