-- What stands in a list at a name, and its number.
use Rattle.std.proofs.Common.{◌≡◌, ◌≢◌, ℕ, zero, suc, ◌+◌, ◌<◌, List, [], ◌∷◌, Bool, true, false, cond, Option, Some, None, Result, Ok, Err, refl, sym, ap, subst, ◌∙◌, ◌⊎◌, inl, inr, length, get_or, arith}
use Rattle.std.proofs.lemmas.Bool.{cases_order}
use Rattle.std.proofs.lemmas.Option.{slice_get_within, slice_get-get_or, get_or_from_slice_get}
use Rattle.std.specs.Prelude.{nat_eq, slice_get, map, option_map, IfNone}
use Rattle.std.specs.Borrow.{Bor}
use Rattle.std.specs.FinMap.{nat_cmp-IsAntisymmetric, slice_cmp-IsAntisymmetric}
use Rattle.std.specs.List.{AllByRecursion}
use Rattle.std.specs.List.Sorted.{IsStrictlySortedBy, IsSearchInRange, IsBinarySearchResult}
use Rattle.std.specs.Ordering.{nat_cmp, ordering_reverse}
use Rattle.std.specs.Result.{result_ok}
use Rattle.std.specs.Cmp.{tied_itself, first_so, second_so}
use Rattle.std.specs.Cmp.Lexicographic.{pointwise, bytes_decides, slice_cmp, nat_list_cmp_total}
use Rattle.std.specs.declared.cmp.Ordering.{Ordering}
use Rattle.std.specs.declared.cmp.Ordering.TheVariants.{Less, Equal, Greater}
use Rattle.ovs_data.proofs.Searches.{KeysAscend, none_tied}
use Rattle.ovs_types.specs.Names.{is_name, IsAscendingBy, AreNames}
use Rattle.ovs_types.specs.Finding.{find_from, column_named, table_named}
use Rattle.ovs_data.specs.declared.column.Column.{Column}
use Rattle.ovs_types.specs.declared.schema.NamedColumn.{NamedColumn}
use Rattle.ovs_types.specs.declared.schema.Table.{Table}

abbrev Precedes : List ℕ → List ℕ → Type 0
Precedes s t = slice_cmp nat_cmp s t ≡ Less

-- no name comes before itself
not_before_itself : (s t : List ℕ) → s ≡ t → Precedes s t → ⊥
not_before_itself s t e h =
    let tied : slice_cmp nat_cmp s s ≡ Equal = tied_itself nat_list_cmp_total s in
    let before : slice_cmp nat_cmp s s ≡ Less = subst (Precedes s) (sym e) h in
    cc

tied_names : (s t : List ℕ) → s ≡ t → slice_cmp nat_cmp s t ≡ Equal
tied_names s t e = subst (λ u. slice_cmp nat_cmp s u ≡ Equal) e (tied_itself nat_list_cmp_total s)

-- so a name that comes before another one is not that one
differ : (s t : List ℕ) (b : Bool) → pointwise nat_eq s t ≡ b → Precedes s t → b ≡ false
differ s t true e h = absurd (not_before_itself s t ((bytes_decides s t).0 e) h)
differ s t false e h = refl

-- nor do two names come before each other
not_both_before : (s t : List ℕ) → Precedes s t → Precedes t s → ⊥
not_both_before s t h k =
    let turned : slice_cmp nat_cmp s t ≡ ordering_reverse (slice_cmp nat_cmp t s) = nat_list_cmp_total.antisymm s t in
    let greater : slice_cmp nat_cmp s t ≡ Greater = turned ∙ ap ordering_reverse k in
    cc

module _ {X Y : Type 0} (name_of : X → List ℕ) (value_of : X → Y) where
  abbrev find : ℕ → List X → List ℕ → Option (ℕ × Y)
  find = find_from name_of value_of

  -- a number counted from k, and what stands there
  abbrev pub Stands : ℕ → List X → List ℕ → ℕ → Y → Type 0
  Stands k xs s i y = (j : ℕ) × (x : X) × (i ≡ k + j) × (slice_get xs j ≡ Some x) × (name_of x ≡ s) × (y ≡ value_of x)

  stands_by : (k : ℕ) (x : X) (xs : List X) (s : List ℕ) (i : ℕ) (y : Y) (b : Bool) → pointwise nat_eq (name_of x) s ≡ b
      → cond b (Some (k, value_of x)) (find (suc k) xs s) ≡ Some (i, y)
      → (find (suc k) xs s ≡ Some (i, y) → Stands (suc k) xs s i y) → Stands k (x ∷ xs) s i y
  stands_by k x xs s i y true named e later =
      let pair : ◌≡◌ {A = ℕ × Y} (k, value_of x) (i, y) = cc in
      let number : k ≡ i = ap (λ p. p.0) pair in
      let value : value_of x ≡ y = ap (λ p. p.1) pair in
      (0, x, omega arith, refl, (bytes_decides (name_of x) s).0 named, sym value)
  stands_by k x xs s i y false other e later =
      let p = later e in
      (suc p.0, p.1, omega (arith, p.2), p.3, p.4, p.5)

  -- what is found stands there under that name
  pub found_stands : (k : ℕ) (xs : List X) (s : List ℕ) (i : ℕ) (y : Y) → find k xs s ≡ Some (i, y) → Stands k xs s i y
  found_stands k [] s i y e = absurd cc
  found_stands k (x ∷ xs) s i y e = stands_by k x xs s i y _ refl e (found_stands (suc k) xs s i y)

  absent_by : (k : ℕ) (x : X) (xs : List X) (s : List ℕ) (b : Bool) → pointwise nat_eq (name_of x) s ≡ b
      → cond b (Some (k, value_of x)) (find (suc k) xs s) ≡ None → (name_of x ≢ s) × (find (suc k) xs s ≡ None)
  absent_by k x xs s true named e = absurd cc
  absent_by k x xs s false other e = ((λ same. let yes = (bytes_decides (name_of x) s).1 same in absurd cc), e)

  -- what is not found has no entry of that name
  pub unfound_absent : (k : ℕ) (xs : List X) (s : List ℕ) → find k xs s ≡ None → (j : ℕ) (x : X) → slice_get xs j ≡ Some x → name_of x ≢ s
  unfound_absent k [] s e j x at = absurd cc
  unfound_absent k (y ∷ xs) s e zero x at =
      let same : y ≡ x = cc in
      subst (λ z. name_of z ≢ s) same (absent_by k y xs s _ refl e).0
  unfound_absent k (y ∷ xs) s e (suc j) x at = unfound_absent (suc k) xs s (absent_by k y xs s _ refl e).1 j x at

  -- and its number is within the list
  pub found_within : (xs : List X) (s : List ℕ) (i : ℕ) (y : Y) → find 0 xs s ≡ Some (i, y) → i < length xs
  found_within xs s i y e = let p = found_stands 0 xs s i y e in let within = slice_get_within xs p.0 p.1 p.3 in omega (arith, p.2, within)

  -- one number has one name
  pub same_number : (xs : List X) (s t : List ℕ) (i : ℕ) (y z : Y) → find 0 xs s ≡ Some (i, y) → find 0 xs t ≡ Some (i, z) → s ≡ t
  same_number xs s t i y z e f =
      let p = found_stands 0 xs s i y e in
      let q = found_stands 0 xs t i z f in
      let number : p.0 ≡ q.0 = omega (arith, p.2, q.2) in
      let one : Some p.1 ≡ Some q.1 = sym p.3 ∙ ap (slice_get xs) number ∙ q.3 in
      let entry : p.1 ≡ q.1 = cc in
      sym p.4 ∙ ap name_of entry ∙ q.4

-- ---- lists whose names ascend

module _ {X : Type 0} (name_of : X → List ℕ) where
  after_all : (q : List ℕ) (xs : List X) (j : ℕ) (x : X) → AllByRecursion (λ t. Precedes q t) (map name_of xs) → slice_get xs j ≡ Some x → Precedes q (name_of x)
  after_all q [] j x h at = absurd cc
  after_all q (y ∷ xs) zero x h at = let same : y ≡ x = cc in subst (λ z. Precedes q (name_of z)) same h.0
  after_all q (y ∷ xs) (suc j) x h at = after_all q xs j x h.1 at

  name_at : (xs : List X) (j : ℕ) (x : X) → AreNames name_of xs → slice_get xs j ≡ Some x → is_name (name_of x) ≡ true
  name_at [] j x h at = absurd cc
  name_at (y ∷ xs) zero x h at = let same : y ≡ x = cc in ap (λ z. is_name (name_of z)) (sym same) ∙ first_so _ _ h
  name_at (y ∷ xs) (suc j) x h at = name_at xs j x (second_so _ _ h) at

  -- of two numbers the lower one has the earlier name
  pub names_ascend : (xs : List X) → IsAscendingBy name_of xs → (i j : ℕ) (x y : X) → slice_get xs i ≡ Some x → slice_get xs j ≡ Some y → i < j → Precedes (name_of x) (name_of y)
  unfolding IsStrictlySortedBy
  names_ascend [] h i j x y at_i at_j less = absurd cc
  names_ascend (z ∷ xs) h zero zero x y at_i at_j less = absurd (omega arith)
  names_ascend (z ∷ xs) h zero (suc j) x y at_i at_j less =
      let same : z ≡ x = cc in
      subst (λ w. Precedes (name_of w) (name_of y)) same (after_all (name_of z) xs j y h.0 at_j)
  names_ascend (z ∷ xs) h (suc i) zero x y at_i at_j less = absurd (omega arith)
  names_ascend (z ∷ xs) h (suc i) (suc j) x y at_i at_j less = names_ascend xs h.1 i j x y at_i at_j (omega arith)

  -- of two names the earlier one has the lower number
  pub numbers_ascend : (xs : List X) → IsAscendingBy name_of xs → (i j : ℕ) (x y : X) → slice_get xs i ≡ Some x → slice_get xs j ≡ Some y → Precedes (name_of x) (name_of y) → i < j
  numbers_ascend xs h i j x y at_i at_j less = by_cases (cases_order i j)
    where
      by_cases : ((i ≡ j) ⊎ ((i < j) ⊎ (j < i))) → i < j
      by_cases (inl same) =
          let one : Some x ≡ Some y = sym at_i ∙ ap (slice_get xs) same ∙ at_j in
          let equal : x ≡ y = cc in
          absurd (not_before_itself (name_of x) (name_of y) (ap name_of equal) less)
      by_cases (inr (inl lower)) = lower
      by_cases (inr (inr higher)) = absurd (not_both_before (name_of x) (name_of y) less (names_ascend xs h j i y x at_j at_i higher))

  -- a name stands once, so an entry is found by its name, under its number
  pub found_by_name : {Y : Type 0} (value_of : X → Y) (k : ℕ) (xs : List X) → IsAscendingBy name_of xs → (j : ℕ) (x : X) → slice_get xs j ≡ Some x → find_from name_of value_of k xs (name_of x) ≡ Some (k + j, value_of x)
  unfolding IsStrictlySortedBy
  found_by_name value_of k [] h j x at = absurd cc
  found_by_name value_of k (y ∷ xs) h zero x at =
      let same : y ≡ x = cc in
      let number : k ≡ k + 0 = omega arith in
      let named : pointwise nat_eq (name_of y) (name_of x) ≡ true = (bytes_decides (name_of y) (name_of x)).1 (ap name_of same) in
      rw named (λ i. Some (number i, value_of (same i)))
  found_by_name value_of k (y ∷ xs) h (suc j) x at =
      let other : pointwise nat_eq (name_of y) (name_of x) ≡ false = differ (name_of y) (name_of x) _ refl (after_all (name_of y) xs j x h.0 at) in
      let number : suc k + j ≡ k + suc j = omega arith in
      rw other (found_by_name value_of (suc k) xs h.1 j x at ∙ λ i. Some (number i, value_of x))

  -- names that are found have numbers in the order of the names
  pub found_numbers_ascend : {Y : Type 0} (value_of : X → Y) (xs : List X) → IsAscendingBy name_of xs → (s t : List ℕ) (i j : ℕ) (y z : Y)
      → find_from name_of value_of 0 xs s ≡ Some (i, y) → find_from name_of value_of 0 xs t ≡ Some (j, z) → Precedes s t → i < j
  found_numbers_ascend value_of xs h s t i j y z e f before =
      let p = found_stands name_of value_of 0 xs s i y e in
      let q = found_stands name_of value_of 0 xs t j z f in
      let names : Precedes (name_of p.1) (name_of q.1) = rw (p.4, q.4) before in
      let less = numbers_ascend xs h p.0 q.0 p.1 q.1 p.3 q.3 names in
      omega (arith, p.2, q.2, less)

  -- what is found has a name that is not reserved, where no entry has one
  pub found_name : {Y : Type 0} (value_of : X → Y) (xs : List X) → AreNames name_of xs → (s : List ℕ) (i : ℕ) (y : Y) → find_from name_of value_of 0 xs s ≡ Some (i, y) → is_name s ≡ true
  found_name value_of xs h s i y e = let p = found_stands name_of value_of 0 xs s i y e in ap is_name (sym p.4) ∙ name_at xs p.0 p.1 h p.3

-- ---- what a search finds among entries whose names ascend

module _ {X : Type 0} (name_of : X → List ℕ) where
  abbrev pub by_name : List ℕ → X → Ordering
  by_name s x = slice_cmp nat_cmp (name_of x) s

  keys_ascend : (xs : List X) → IsAscendingBy name_of xs → KeysAscend (slice_cmp nat_cmp) nat_list_cmp_total name_of xs
  keys_ascend xs h i j d up within =
      names_ascend name_of xs h i j (get_or xs i d) (get_or xs j d) (slice_get-get_or xs i d (omega arith)) (slice_get-get_or xs j d within) up

  -- the entry at the number where a search found a name is the one that has it
  pub search_found : {Y : Type 0} (value_of : X → Y) (xs : List X) → IsAscendingBy name_of xs → (s : List ℕ) (r : Result ℕ ℕ) → IsSearchInRange r (length xs)
      → IsBinarySearchResult (by_name s) xs r → (i : ℕ) → result_ok r ≡ Some i → (d : X) → find_from name_of value_of 0 xs s ≡ Some (i, value_of (get_or xs i d))
  search_found value_of xs h s (Err j) within place i e d = absurd cc
  search_found value_of xs h s (Ok j) within place i e d =
      let number : j ≡ i = cc in
      let x = get_or xs j d in
      let named : name_of x ≡ s = slice_cmp-IsAntisymmetric nat_cmp-IsAntisymmetric (name_of x) s (place d) in
      let found : find_from name_of value_of 0 xs (name_of x) ≡ Some (0 + j, value_of x) = found_by_name name_of value_of 0 xs h j x (slice_get-get_or xs j d within) in
      let counted : 0 + j ≡ i = omega (arith, number) in
      ap (find_from name_of value_of 0 xs) (sym named) ∙ found ∙ λ k. Some (counted k, value_of (get_or xs (number k) d))

  none_by : {Y : Type 0} (value_of : X → Y) (k : ℕ) (x : X) (xs : List X) (s : List ℕ) (b : Bool) → pointwise nat_eq (name_of x) s ≡ b → name_of x ≢ s
      → find_from name_of value_of (suc k) xs s ≡ None → cond b (Some (k, value_of x)) (find_from name_of value_of (suc k) xs s) ≡ None
  none_by value_of k x xs s true named other later = absurd (other ((bytes_decides (name_of x) s).0 named))
  none_by value_of k x xs s false named other later = later

  -- where none has the name none is found
  none_found : {Y : Type 0} (value_of : X → Y) (k : ℕ) (xs : List X) (s : List ℕ) → ((j : ℕ) (x : X) → slice_get xs j ≡ Some x → name_of x ≢ s) → find_from name_of value_of k xs s ≡ None
  none_found value_of k [] s absent = refl
  none_found value_of k (x ∷ xs) s absent = none_by value_of k x xs s _ refl (absent 0 x refl) (none_found value_of (suc k) xs s (λ j. absent (suc j)))

  pub search_absent : {Y : Type 0} (value_of : X → Y) (xs : List X) → IsAscendingBy name_of xs → (s : List ℕ) (r : Result ℕ ℕ)
      → IsBinarySearchResult (by_name s) xs r → result_ok r ≡ None → find_from name_of value_of 0 xs s ≡ None
  search_absent value_of xs h s (Ok i) parted e = absurd cc
  search_absent value_of xs h s (Err i) parted e =
      none_found value_of 0 xs s (λ j x at same. none_tied (slice_cmp nat_cmp) nat_list_cmp_total name_of xs (keys_ascend xs h) s i parted j x (slice_get_within xs j x at)
      (tied_names (name_of (get_or xs j x)) s (ap name_of (get_or_from_slice_get xs j x x at) ∙ same)))

-- ---- columns and tables

-- the column at the number that is found
pub column_at : (cs : List NamedColumn) (s : List ℕ) (i : ℕ) (c : Column) → column_named cs s ≡ Some (i, c) → slice_get cs i ≡ Some (record { name = s; column = c })
column_at cs s i c e =
    let q = found_stands (λ c. c.name) (λ c. c.column) 0 cs s i c e in
    let number : i ≡ q.0 = omega (arith, q.2) in
    ap (slice_get cs) number ∙ q.3 ∙ λ i. Some (record { name = q.4 i; column = sym q.5 i })

-- and the number of the column that stands there
pub column_number : (cs : List NamedColumn) → IsAscendingBy (λ c. c.name) cs → (i : ℕ) (c : NamedColumn) → slice_get cs i ≡ Some c → column_named cs c.name ≡ Some (i, c.column)
column_number cs h i c at = let number : 0 + i ≡ i = omega arith in found_by_name (λ c. c.name) (λ c. c.column) 0 cs h i c at ∙ λ k. Some (number k, c.column)

pub table_at : (ts : List Table) (s : List ℕ) (i : ℕ) (t : Table) → table_named ts s ≡ Some (i, t) → (slice_get ts i ≡ Some t) × (t.name ≡ s)
table_at ts s i t e =
    let q = found_stands (λ t. t.name) (λ t. t) 0 ts s i t e in
    let number : i ≡ q.0 = omega (arith, q.2) in
    (ap (slice_get ts) number ∙ q.3 ∙ λ i. Some (sym q.5 i), ap (λ t. t.name) q.5 ∙ q.4)

pub table_number : (ts : List Table) → IsAscendingBy (λ t. t.name) ts → (i : ℕ) (t : Table) → slice_get ts i ≡ Some t → table_named ts t.name ≡ Some (i, t)
table_number ts h i t at = let number : 0 + i ≡ i = omega arith in found_by_name (λ t. t.name) (λ t. t) 0 ts h i t at ∙ λ k. Some (number k, t)

-- ---- for what the finders answer

pub column_absent : (cs : List NamedColumn) (s : List ℕ) (r : Option (ℕ × Column)) → r ≡ column_named cs s → IfNone r ((number : ℕ) → (c : NamedColumn) → slice_get cs number ≡ Some c → c.name ≢ s)
column_absent cs s None e = unfound_absent (λ c. c.name) (λ c. c.column) 0 cs s (sym e)
column_absent cs s (Some p) e = tt

abbrev seen : Option (ℕ × Bor Table) → Option (ℕ × Table)
seen = option_map (λ p. (p.0, p.1.now))

pub table_absent : (ts : List Table) (s : List ℕ) (r : Option (ℕ × Bor Table)) → seen r ≡ table_named ts s → IfNone r ((number : ℕ) → (t : Table) → slice_get ts number ≡ Some t → t.name ≢ s)
table_absent ts s None e = unfound_absent (λ t. t.name) (λ t. t) 0 ts s (sym e)
table_absent ts s (Some p) e = tt

pub column_reserved : (cs : List NamedColumn) → AreNames (λ c. c.name) cs → (s : List ℕ) (i : ℕ) (c : Column) → column_named cs s ≡ Some (i, c) → is_name s ≡ false → ⊥
column_reserved cs h s i c e reserved = let good : is_name s ≡ true = found_name (λ c. c.name) (λ c. c.column) cs h s i c e in cc

pub table_reserved : (ts : List Table) → AreNames (λ t. t.name) ts → (s : List ℕ) (i : ℕ) (t : Table) → table_named ts s ≡ Some (i, t) → is_name s ≡ false → ⊥
table_reserved ts h s i t e reserved = let good : is_name s ≡ true = found_name (λ t. t.name) (λ t. t) ts h s i t e in cc
