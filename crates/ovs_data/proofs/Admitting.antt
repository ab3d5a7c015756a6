-- The test whether a datum is one of a column says what a datum of a column is.
use Rattle.std.proofs.Common.{◌≡◌, List, [], ◌∷◌, Bool, true, ◌&&◌, true≢false, Option, Some, None, refl, sym, ap, subst, ◌∙◌}
use Rattle.std.specs.Prelude.{◌↔◌}
use Rattle.std.specs.declared.cmp.Ordering.{Ordering}
use Rattle.std.specs.declared.cmp.Ordering.TheVariants.{Less, Equal, Greater}
use Rattle.std.specs.Ordering.{is_lt}
use Rattle.ovs_data.specs.declared.atom.Atom.{Atom}
use Rattle.ovs_data.specs.declared.atom.Atom.TheVariants.{Integer, Boolean, String, Uuid}
use Rattle.ovs_data.specs.declared.atom.AtomKind.{AtomKind}
use Rattle.ovs_data.specs.declared.atom.AtomKind.TheVariants as kinds
use Rattle.ovs_data.specs.declared.column.Column.{Column}
use Rattle.ovs_data.specs.declared.datum.pairs.Pair.{Pair}
use Rattle.ovs_data.specs.declared.datum.Datum.{Datum}
use Rattle.ovs_data.specs.declared.datum.Datum.TheVariants.{Set, Map}
use Rattle.ovs_data.specs.Atom.{atom_cmp, kind_of}
use Rattle.ovs_data.specs.Ascending.{IsBefore, IsAscending}
use Rattle.ovs_data.specs.Column.{may_count}
use Rattle.ovs_data.specs.Datum.{elements_of, pairs_of, datum_len, IsShaped, IsOrdered, HasKinds, IsDatumOf}
use Rattle.ovs_data.specs.Admitting.{has_kind, has_pair_kinds, has_kinds, is_before, is_ascending, is_ordered, admits}
use Rattle.ovs_data.proofs.Including.{elements_hold, hold_elements, pairs_hold, hold_pairs}
use Rattle.std.specs.Cmp.{first_so, second_so}

both : (a b : Bool) → a ≡ true → b ≡ true → (a && b) ≡ true
both a b h k = rw (h, k) refl

-- ---- the kind of an atom

kind_is : (kind : AtomKind) (x : Atom) → has_kind kind x ≡ true → kind_of x ≡ kind
kind_is kinds.Integer (Integer z) h = refl
kind_is kinds.Boolean (Boolean b) h = refl
kind_is kinds.String (String s) h = refl
kind_is kinds.Uuid (Uuid id) h = refl
kind_is kinds.Integer (Boolean b) h = absurd (true≢false (sym h))
kind_is kinds.Integer (String s) h = absurd (true≢false (sym h))
kind_is kinds.Integer (Uuid id) h = absurd (true≢false (sym h))
kind_is kinds.Boolean (Integer z) h = absurd (true≢false (sym h))
kind_is kinds.Boolean (String s) h = absurd (true≢false (sym h))
kind_is kinds.Boolean (Uuid id) h = absurd (true≢false (sym h))
kind_is kinds.String (Integer z) h = absurd (true≢false (sym h))
kind_is kinds.String (Boolean b) h = absurd (true≢false (sym h))
kind_is kinds.String (Uuid id) h = absurd (true≢false (sym h))
kind_is kinds.Uuid (Integer z) h = absurd (true≢false (sym h))
kind_is kinds.Uuid (Boolean b) h = absurd (true≢false (sym h))
kind_is kinds.Uuid (String s) h = absurd (true≢false (sym h))

own_kind : (x : Atom) → has_kind (kind_of x) x ≡ true
own_kind (Integer z) = refl
own_kind (Boolean b) = refl
own_kind (String s) = refl
own_kind (Uuid id) = refl

is_kind : (kind : AtomKind) (x : Atom) → kind_of x ≡ kind → has_kind kind x ≡ true
is_kind kind x h = subst (λ k. has_kind k x ≡ true) h (own_kind x)

-- ---- the order

less_is : (o : Ordering) → is_lt o ≡ true → o ≡ Less
less_is Less h = refl
less_is Equal h = absurd (true≢false (sym h))
less_is Greater h = absurd (true≢false (sym h))

module _ {K E : Type 0} (order : K → K → Ordering) (key : E → K) where
  before_is : (q : K) (xs : List E) → is_before order key q xs ≡ true → IsBefore order key q xs
  before_is q [] h = tt
  before_is q (x ∷ xs) h = (less_is (order q (key x)) (first_so (is_lt (order q (key x))) (is_before order key q xs) h), before_is q xs (second_so (is_lt (order q (key x))) (is_before order key q xs) h))

  is_before_it : (q : K) (xs : List E) → IsBefore order key q xs → is_before order key q xs ≡ true
  is_before_it q [] h = refl
  is_before_it q (x ∷ xs) h = both (is_lt (order q (key x))) (is_before order key q xs) (ap is_lt h.0) (is_before_it q xs h.1)

  ascending_is : (xs : List E) → is_ascending order key xs ≡ true → IsAscending order key xs
  ascending_is [] h = tt
  ascending_is (x ∷ xs) h = (before_is (key x) xs (first_so (is_before order key (key x) xs) (is_ascending order key xs) h), ascending_is xs (second_so (is_before order key (key x) xs) (is_ascending order key xs) h))

  is_ascending_it : (xs : List E) → IsAscending order key xs → is_ascending order key xs ≡ true
  is_ascending_it [] h = refl
  is_ascending_it (x ∷ xs) h = both (is_before order key (key x) xs) (is_ascending order key xs) (is_before_it (key x) xs h.0) (is_ascending_it xs h.1)

ordered_is : (d : Datum) → is_ordered d ≡ true → IsOrdered d
ordered_is (Set xs) h = ascending_is atom_cmp (λ (x : Atom). x) xs h
ordered_is (Map ps) h = ascending_is atom_cmp (λ (p : Pair). p.key) ps h

pub is_ordered_it : (d : Datum) → IsOrdered d → is_ordered d ≡ true
is_ordered_it (Set xs) h = is_ascending_it atom_cmp (λ (x : Atom). x) xs h
is_ordered_it (Map ps) h = is_ascending_it atom_cmp (λ (p : Pair). p.key) ps h

-- ---- the kinds of a datum

abbrev AreOf : AtomKind → Option AtomKind → Datum → Type 0
AreOf key value d = IsShaped (record { key = key; value = value; may_be_empty = true; most = None }) d × HasKinds (record { key = key; value = value; may_be_empty = true; most = None }) d

kinds_are : (key : AtomKind) (value : Option AtomKind) (d : Datum) → has_kinds key value d ≡ true → AreOf key value d
kinds_are key None (Set xs) h = (refl, λ x e. kind_is key x (elements_hold (has_kind key) xs h x e))
kinds_are key (Some value) (Map ps) h = (
  refl,
  λ k v e.
      let both = pairs_hold (has_pair_kinds key value) ps h k v e in
      (kind_is key k (first_so (has_kind key k) (has_kind value v) both), ap Some (kind_is value v (second_so (has_kind key k) (has_kind value v) both))),
)
kinds_are key (Some value) (Set xs) h = absurd (true≢false (sym h))
kinds_are key None (Map ps) h = absurd (true≢false (sym h))

some_same : (a b : AtomKind) → Some a ≡ Some b → a ≡ b
some_same a b h = cc

are_kinds : (key : AtomKind) (value : Option AtomKind) (d : Datum) → IsOrdered d → AreOf key value d → has_kinds key value d ≡ true
are_kinds key None (Set xs) o h = hold_elements (has_kind key) xs (λ x e. is_kind key x (h.1 x e))
are_kinds key (Some value) (Map ps) o h = hold_pairs (has_pair_kinds key value) ps o (λ k v e.
    both (has_kind key k) (has_kind value v) (is_kind key k (h.1 k v e).0) (is_kind value v (some_same (kind_of v) value (h.1 k v e).1)))
are_kinds key (Some value) (Set xs) o h = absurd cc
are_kinds key None (Map ps) o h = absurd (true≢false (sym h.0))

same_column : (c : Column) (d : Datum) → AreOf c.key c.value d → IsShaped c d × HasKinds c d
same_column c (Set xs) h = h
same_column c (Map ps) h = h

column_same : (c : Column) (d : Datum) → IsShaped c d → HasKinds c d → AreOf c.key c.value d
column_same c (Set xs) s h = (s, h)
column_same c (Map ps) s h = (s, h)

pub admits_is : (c : Column) (d : Datum) → admits c d ≡ true → IsDatumOf c d
admits_is c d h =
    let rest : (may_count c (datum_len d) && has_kinds c.key c.value d) ≡ true = second_so (is_ordered d) (may_count c (datum_len d) && has_kinds c.key c.value d) h in
    let are = same_column c d (kinds_are c.key c.value d (second_so (may_count c (datum_len d)) (has_kinds c.key c.value d) rest)) in
    record {
      shape = are.0;
      order = ordered_is d (first_so (is_ordered d) (may_count c (datum_len d) && has_kinds c.key c.value d) h);
      kinds = are.1;
      count = first_so (may_count c (datum_len d)) (has_kinds c.key c.value d) rest;
    }

pub is_admitted : (c : Column) (d : Datum) → IsDatumOf c d → admits c d ≡ true
is_admitted c d h =
    both (is_ordered d) (may_count c (datum_len d) && has_kinds c.key c.value d) (is_ordered_it d h.order)
    (both (may_count c (datum_len d)) (has_kinds c.key c.value d) h.count (are_kinds c.key c.value d h.order (column_same c d h.shape h.kinds)))

pub in_order_it : (d : Datum) (xs : List Atom) (ps : List Pair) → xs ≡ elements_of d → ps ≡ pairs_of d → IsAscending atom_cmp (λ x. x) xs → IsAscending atom_cmp (λ p. p.key) ps → is_ordered d ≡ true
in_order_it (Set ys) xs ps e f h k = is_ascending_it atom_cmp (λ (x : Atom). x) ys (subst (IsAscending atom_cmp (λ (x : Atom). x)) e h)
in_order_it (Map qs) xs ps e f h k = is_ascending_it atom_cmp (λ (p : Pair). p.key) qs (subst (IsAscending atom_cmp (λ (p : Pair). p.key)) f k)

and_two : (a b k : Bool) → a ≡ true → b ≡ true → k ≡ (a && (b && k))
and_two a b k h i = rw (h, i) refl

pub admits_value : (c : Column) (d : Datum) (m k : Bool) → is_ordered d ≡ true → m ≡ may_count c (datum_len d) → m ≡ true → k ≡ has_kinds c.key c.value d → k ≡ admits c d
admits_value c d m k ordered is may kinds = kinds ∙ and_two (is_ordered d) (may_count c (datum_len d)) (has_kinds c.key c.value d) ordered (sym is ∙ may)

pub datum_decides : (r : Bool) (c : Column) (d : Datum) → r ≡ admits c d → (r ≡ true) ↔ IsDatumOf c d
datum_decides r c d is = (λ h. admits_is c d (sym is ∙ h), λ h. is ∙ is_admitted c d h)
