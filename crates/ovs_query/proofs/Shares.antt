-- The touched rows of one table stand one after the other.
use Rattle.std.proofs.Common.{◌≡◌, ℕ, zero, suc, ◌≤◌, ◌<◌, length, List, [], ◌∷◌, true, false, cond, refl, sym, ap, ◌∙◌, map, take, drop, arith, subst, leb, ltb, leb-true, leb-false, ltb-true, ltb-false, ne_eqb}
use Rattle.std.specs.Prelude.{◌==◌, slice_index_or}
use Rattle.std.specs.List.{AllByRecursion, AllWithin}
use Rattle.std.specs.List.Sorted.{IsNonDecreasingBy, IsPartitionPoint, IsStrictlySortedBy}
use Rattle.std.specs.declared.cmp.Ordering.{Ordering}
use Rattle.std.specs.declared.cmp.Ordering.TheVariants.{Less, Equal, Greater}
use Rattle.std.specs.Cmp.{ranked}
use Rattle.std.specs.Ordering.{MatchOrdering, nat_cmp, ordering_then}
use Rattle.std.proofs.lemmas.Bool.Decides.{nat_tests}
use Rattle.ovs_rows.specs.declared.applied.Touched.{Touched}
use Rattle.ovs_rows.specs.declared.row_key.RowKey.{RowKey}
use Rattle.ovs_rows.specs.Applied.{seen, AscendByPlace}
use Rattle.ovs_rows.specs.After.{TouchedRow}
use Rattle.ovs_rows.specs.RowKey.{place_cmp}
use Rattle.ovs_query.specs.Telling.{touched_in}

abbrev pub table_of : Touched → ℕ
table_of t = t.place.table

-- ---- tables don't fall

by_table : (a b : ℕ) (r o : Ordering) → MatchOrdering o (a < b) (a ≡ b) (b < a) → ordering_then o r ≡ Less → a ≤ b
by_table a b r Less h e = let lt : a < b = h in omega arith
by_table a b r Equal h e = let eq : a ≡ b = h in omega (arith, eq)
by_table a b r Greater h e = absurd cc

table_rises : (p q : RowKey) → place_cmp p q ≡ Less → p.table ≤ q.table
table_rises p q e = by_table p.table q.table (nat_cmp p.id q.id) (nat_cmp p.table q.table) (ranked p.table q.table (nat_cmp p.table q.table) refl) e

later_rises : (p : RowKey) (ts : List Touched) (j : ℕ) (d : Touched) → AllByRecursion (λ q. place_cmp p q ≡ Less) (map (λ (t : TouchedRow). t.place) (map seen ts)) → j < length ts → p.table ≤ table_of (slice_index_or ts j d)
later_rises p [] j d h lt = absurd (omega arith)
later_rises p (t ∷ ts) zero d h lt = table_rises p t.place h.0
later_rises p (t ∷ ts) (suc j) d h lt = later_rises p ts j d h.1 (omega (arith, lt))

pub tables_rise : (ts : List Touched) → AscendByPlace (map seen ts) → IsNonDecreasingBy table_of ts
unfolding IsStrictlySortedBy
tables_rise [] sorted i j d le lt = absurd (omega arith)
tables_rise (t ∷ ts) sorted zero zero d le lt = omega arith
tables_rise (t ∷ ts) sorted zero (suc j) d le lt = later_rises t.place ts j d sorted.0 (omega (arith, lt))
tables_rise (t ∷ ts) sorted (suc i) zero d le lt = absurd (omega arith)
tables_rise (t ∷ ts) sorted (suc i) (suc j) d le lt = tables_rise ts sorted.1 i j d (omega (arith, le)) (omega (arith, lt))

-- ---- the rows between two places

module _ (number : ℕ) where
  dropped : (P : Touched → Type 0) (ts : List Touched) (i : ℕ) → AllWithin P ts i (length ts) → AllWithin P (drop i ts) 0 (length (drop i ts))
  dropped P ts zero h = h
  dropped P [] (suc i) h = λ k d lo hi. absurd (omega arith)
  dropped P (t ∷ ts) (suc i) h = dropped P ts i (λ k d lo hi. h (suc k) d (omega (arith, lo)) (omega (arith, hi)))

  -- rows of earlier tables are none of the table's
  skipped : (ts : List Touched) (i : ℕ) → AllWithin (λ t. ltb (table_of t) number ≡ true) ts 0 i → touched_in number (map seen (drop i ts)) ≡ touched_in number (map seen ts)
  skipped ts zero h = refl
  skipped [] (suc i) h = refl
  skipped (t ∷ ts) (suc i) h =
      let below : table_of t < number = ltb-true (table_of t) number (h 0 t (omega arith) (omega arith)) in
      skipped ts i (λ k d lo hi. h (suc k) d (omega arith) (omega (arith, hi)))
      ∙ sym (ap (λ b. cond b (seen t ∷ touched_in number (map seen ts)) (touched_in number (map seen ts))) (ne_eqb (table_of t) number (λ e. omega (arith, below, e))))

  -- nor are those of later ones
  none_later : (ts : List Touched) → AllWithin (λ t. leb (table_of t) number ≡ false) ts 0 (length ts) → touched_in number (map seen ts) ≡ []
  none_later [] h = refl
  none_later (t ∷ ts) h =
      let above : number < table_of t = leb-false (table_of t) number (h 0 t (omega arith) (omega arith)) in
      ap (λ b. cond b (seen t ∷ touched_in number (map seen ts)) (touched_in number (map seen ts))) (ne_eqb (table_of t) number (λ e. omega (arith, above, e)))
      ∙ none_later ts (λ k d lo hi. h (suc k) d (omega arith) (omega (arith, hi)))

  equal_tables : (n : ℕ) → n ≤ number → number ≤ n → (n == number) ≡ true
  equal_tables n le ge = grind (arith, nat_tests)

  kept_rows : (ts : List Touched) (k : ℕ) → AllWithin (λ t. ltb (table_of t) number ≡ false) ts 0 (length ts) → AllWithin (λ t. leb (table_of t) number ≡ true) ts 0 k → AllWithin (λ t. leb (table_of t) number ≡ false) ts k (length ts)
      → map seen (take k ts) ≡ touched_in number (map seen ts)
  kept_rows ts zero from upto later = sym (none_later ts later)
  kept_rows [] (suc k) from upto later = refl
  kept_rows (t ∷ ts) (suc k) from upto later =
      let le : table_of t ≤ number = leb-true (table_of t) number (upto 0 t (omega arith) (omega arith)) in
      let ge : number ≤ table_of t = ltb-false (table_of t) number (from 0 t (omega arith) (omega arith)) in
      ap (λ us. seen t ∷ us) (kept_rows ts k (λ j d lo hi. from (suc j) d (omega arith) (omega (arith, hi))) (λ j d lo hi. upto (suc j) d (omega arith) (omega (arith, hi))) (λ j d lo hi. later (suc j) d (omega (arith, lo)) (omega (arith, hi))))
      ∙ sym (ap (λ b. cond b (seen t ∷ touched_in number (map seen ts)) (touched_in number (map seen ts))) (equal_tables (table_of t) le ge))

  pub share_of : (ts rest : List Touched) (i k : ℕ) → rest ≡ drop i ts → IsPartitionPoint (λ t. ltb (table_of t) number ≡ true) (λ t. ltb (table_of t) number ≡ false) ts i
      → IsPartitionPoint (λ t. leb (table_of t) number ≡ true) (λ t. leb (table_of t) number ≡ false) rest k → map seen (take k rest) ≡ touched_in number (map seen ts)
  share_of ts rest i k is first last =
      kept_rows rest k (subst (λ us. AllWithin (λ t. ltb (table_of t) number ≡ false) us 0 (length us)) (sym is) (dropped (λ t. ltb (table_of t) number ≡ false) ts i first.1)) last.0 last.1
      ∙ ap (λ us. touched_in number (map seen us)) is ∙ skipped ts i first.0
