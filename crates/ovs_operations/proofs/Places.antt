-- The row at each place after an alteration.
use Rattle.std.proofs.Common.{◌≡◌, ℕ, List, [], ◌∷◌, Bool, true, false, cond, Option, Some, None, Ok, Err, refl, sym, ◌∙◌, ap}
use Rattle.std.specs.Prelude.{filter, is_some, option_map, ◌==◌}
use Rattle.std.specs.declared.cmp.Ordering.{Ordering}
use Rattle.std.specs.declared.cmp.Ordering.TheVariants.{Less, Equal, Greater}
use Rattle.std.specs.Ordering.{is_lt, is_eq}
use Rattle.std.specs.Cmp.{first_so, second_so}
use Rattle.std.specs.FinMap.{get, entries, find, is_sorted, entries_sorted, get-entries}
use Rattle.std.specs.FinMap.Entries.{below_all, is_sorted-where_key}
use Rattle.ovs_data.specs.declared.datum.Datum.{Datum}
use Rattle.ovs_data.proofs.Maps.{of_T}
use Rattle.ovs_json.specs.Results.{◌>>=◌, result_map}
use Rattle.ovs_types.specs.declared.schema.NamedColumn.{NamedColumn}
use Rattle.ovs_rows.specs.declared.row_key.RowKey.{RowKey}
use Rattle.ovs_rows.specs.declared.row.Row.{Row}
use Rattle.ovs_rows.specs.RowKey.{place_cmp}
use Rattle.ovs_rows.specs.Row.{Rows}
use Rattle.ovs_rows.specs.After.{put_at}
use Rattle.ovs_rows.proofs.PlaceOrder.{at, same_place, itself, turned}
use Rattle.ovs_rows.proofs.PlacingSteps.{get-put_at}
use Rattle.ovs_rows.proofs.Scanning.{find_kept}
use Rattle.ovs_operations.specs.declared.operation.Alteration.{Alteration}
use Rattle.ovs_operations.specs.OperationError.{Read}
use Rattle.ovs_operations.specs.Altering.{RunResult, row_of, altered, put_altered, alter_one, alter_each, alter_all, after_result, altered_at, after_all}

abbrev Entries : Type 0
Entries = List (RowKey × Row)

-- ---- entries whose places ascend

-- the places that come later are others
abbrev Below : RowKey → Entries → Type 0
Below k [] = Unit {0}
Below k (e ∷ es) = (at e.0 k ≡ false) × (at k e.0 ≡ false) × Below k es

abbrev Apart : Entries → Type 0
Apart [] = Unit {0}
Apart (e ∷ es) = Below e.0 es × Apart es

less_apart : (k j : RowKey) → is_lt (place_cmp k j) ≡ true → at k j ≡ false
less_apart k j = by (place_cmp k j)
  where
    by : (o : Ordering) → is_lt o ≡ true → is_eq o ≡ false
    by Less e = refl
    by Equal e = absurd cc
    by Greater e = absurd cc

below_is : (k : RowKey) (es : Entries) → below_all place_cmp k es ≡ true → Below k es
below_is k [] h = tt
below_is k (e ∷ es) h =
    let apart = less_apart k e.0 (first_so (is_lt (place_cmp k e.0)) (below_all place_cmp k es) h) in
    (turned e.0 k ∙ apart, apart, below_is k es (second_so (is_lt (place_cmp k e.0)) (below_all place_cmp k es) h))

apart_is : (es : Entries) → is_sorted place_cmp es ≡ true → Apart es
apart_is [] h = tt
apart_is (e ∷ es) h = (below_is e.0 es (first_so (below_all place_cmp e.0 es) (is_sorted place_cmp es) h), apart_is es (second_so (below_all place_cmp e.0 es) (is_sorted place_cmp es) h))

-- each entry is what stands at its place
abbrev Held : (RowKey → Option Row) → Entries → Type 0
Held f [] = Unit {0}
Held f (e ∷ es) = (f e.0 ≡ Some e.1) × Held f es

held_weaker : (f g : RowKey → Option Row) (k : RowKey) (es : Entries) → Below k es → ((q : RowKey) → at q k ≡ false → g q ≡ f q) → Held f es → Held g es
held_weaker f g k [] b s h = tt
held_weaker f g k (e ∷ es) b s h = (s e.0 b.0 ∙ h.0, held_weaker f g k es b.2 s h.1)

found : (es : Entries) → Apart es → Held (λ q. find place_cmp q es) es
found [] a = tt
found (e ∷ es) a = (
  ap (λ b. cond b (Some e.1) (find place_cmp e.0 es)) (itself e.0),
  held_weaker (λ q. find place_cmp q es) (λ q. find place_cmp q (e ∷ es)) e.0 es a.0 (λ q n. ap (λ b. cond b (Some e.1) (find place_cmp q es)) n) (found es a.1),
)

-- whether the place is among them
abbrev among : RowKey → Entries → Bool
among p es = is_some (find place_cmp p es)

none_among : (p k : RowKey) (es : Entries) → p ≡ k → Below k es → among p es ≡ false
none_among p k [] e b = refl
none_among p k (x ∷ es) e b = ap (λ t. is_some (cond t (Some x.1) (find place_cmp p es))) (ap (λ q. at q x.0) e ∙ b.1) ∙ none_among p k es e b.2

-- ---- rows that are set

set_here : (rows : Rows) (p : RowKey) (o : Option Row) → get (put_at rows p o) p ≡ o
set_here rows p o = get-put_at rows p o p ∙ ap (λ b. cond b o (get rows p)) (itself p)

set_there : (rows : Rows) (p q : RowKey) (o : Option Row) → at q p ≡ false → get (put_at rows p o) q ≡ get rows q
set_there rows p q o e = get-put_at rows p o q ∙ ap (λ b. cond b o (get rows q)) e

module _ (id : ℕ) (before : Rows) (cs : List NamedColumn) (test : RowKey × Row → Bool) (a : Alteration) where
  abbrev becomes : RowKey → Option Row → Option Row
  becomes = altered_at id before cs test a

  one_here : (c d : RunResult) (e : RowKey × Row) → alter_one id before cs test a c e ≡ Ok d → get c.rows e.0 ≡ Some e.1 → get d.rows e.0 ≡ becomes e.0 (Some e.1)
  one_here c d e one here = by (test e) (altered cs a e.1.columns) one
    where
      by : (b : Bool) (r : Read (Option (List Datum))) → cond b (result_map (put_altered id before c e.0) r) (Ok c) ≡ Ok d → get d.rows e.0 ≡ cond b (after_result id (get before e.0) e.1 r) (Some e.1)
      by false r x = let same : c ≡ d = cc in ap (λ (y : RunResult). get y.rows e.0) (sym same) ∙ here
      by true (Err f) x = absurd cc
      by true (Ok o) x =
          let same : put_altered id before c e.0 o ≡ d = cc in
          ap (λ (y : RunResult). get y.rows e.0) (sym same) ∙ set_here c.rows e.0 (option_map (row_of id (get before e.0)) o)

  one_there : (c d : RunResult) (e : RowKey × Row) → alter_one id before cs test a c e ≡ Ok d → (q : RowKey) → at q e.0 ≡ false → get d.rows q ≡ get c.rows q
  one_there c d e one q n = by (test e) (altered cs a e.1.columns) one
    where
      by : (b : Bool) (r : Read (Option (List Datum))) → cond b (result_map (put_altered id before c e.0) r) (Ok c) ≡ Ok d → get d.rows q ≡ get c.rows q
      by false r x = let same : c ≡ d = cc in ap (λ (y : RunResult). get y.rows q) (sym same)
      by true (Err f) x = absurd cc
      by true (Ok o) x =
          let same : put_altered id before c e.0 o ≡ d = cc in
          ap (λ (y : RunResult). get y.rows q) (sym same) ∙ set_there c.rows e.0 q (option_map (row_of id (get before e.0)) o) n

  each_at : (c d : RunResult) (es : Entries) → Apart es → Held (get c.rows) es → alter_each id before cs test a c es ≡ Ok d
      → (p : RowKey) → get d.rows p ≡ cond (among p es) (becomes p (get c.rows p)) (get c.rows p)
  each_at c d [] apart held x p = let same : c ≡ d = cc in ap (λ (y : RunResult). get y.rows p) (sym same)
  each_at c d (e ∷ es) apart held x p = of (alter_one id before cs test a c e) refl x (λ y k q. each_at y d es apart.1 k q p)
    where
      by : (y : RunResult) (b : Bool) → at p e.0 ≡ b → alter_one id before cs test a c e ≡ Ok y → get d.rows p ≡ cond (among p es) (becomes p (get y.rows p)) (get y.rows p)
          → get d.rows p ≡ cond (is_some (cond b (Some e.1) (find place_cmp p es))) (becomes p (get c.rows p)) (get c.rows p)
      by y true t one ih =
          let same : p ≡ e.0 = same_place p e.0 t in
          ih ∙ ap (λ b. cond b (becomes p (get y.rows p)) (get y.rows p)) (none_among p e.0 es same apart.0)
          ∙ ap (get y.rows) same ∙ one_here c y e one held.0 ∙ sym (ap (λ q. becomes q (get c.rows q)) same ∙ ap (becomes e.0) held.0)
      by y false t one ih = ih ∙ ap (λ o. cond (among p es) (becomes p o) o) (one_there c y e one p t)

      of : (r : Read RunResult) → alter_one id before cs test a c e ≡ r → (r >>= λ y. alter_each id before cs test a y es) ≡ Ok d
          → ((y : RunResult) → Held (get y.rows) es → alter_each id before cs test a y es ≡ Ok d → get d.rows p ≡ cond (among p es) (becomes p (get y.rows p)) (get y.rows p))
          → get d.rows p ≡ cond (is_some (cond (at p e.0) (Some e.1) (find place_cmp p es))) (becomes p (get c.rows p)) (get c.rows p)
      of (Ok y) one q more = by y (at p e.0) refl one (more y (held_weaker (get c.rows) (get y.rows) e.0 es apart.0 (one_there c y e one) held.1) q)
      of (Err f) one q more = absurd cc

  module _ (table : ℕ) (rows : Rows) where
    abbrev of_table : RowKey → Bool
    of_table q = q.table == table

    abbrev theirs : Entries
    theirs = filter (λ e. of_table e.0) (entries rows)

    -- what is found among the table's rows
    found_there : (q : RowKey) → find place_cmp q theirs ≡ cond (of_table q) (get rows q) None
    found_there q = find_kept of_table q (entries rows) ∙ ap (λ o. cond (of_table q) o None) (sym (get-entries rows q))

    stands : (b : Bool) (o : Option Row) (row : Row) → cond b o None ≡ Some row → o ≡ Some row
    stands true o row e = e
    stands false o row e = absurd cc

    held_there : (es : Entries) → Held (λ q. find place_cmp q theirs) es → Held (get rows) es
    held_there [] h = tt
    held_there (e ∷ es) h = (stands (of_table e.0) (get rows e.0) e.1 (sym (found_there e.0) ∙ h.0), held_there es h.1)

    -- what stands at each place after all
    pub all_at : (d : RunResult) → alter_all id before cs test a table rows ≡ Ok d → (p : RowKey) → get d.rows p ≡ after_all id before cs test a table p (get rows p)
    all_at d x p =
        let apart = apart_is theirs (of_T (is_sorted place_cmp theirs) (is_sorted-where_key place_cmp of_table (entries rows) (entries_sorted rows))) in
        each_at (record { rows = rows; count = 0 }) d theirs apart (held_there theirs (found theirs apart)) x p
        ∙ ap (λ o. cond (is_some o) (becomes p (get rows p)) (get rows p)) (found_there p)
        ∙ by (of_table p) (get rows p)
      where
        by : (b : Bool) (o : Option Row) → cond (is_some (cond b o None)) (becomes p o) o ≡ cond b (becomes p o) o
        by true (Some row) = refl
        by true None = refl
        by false o = refl
