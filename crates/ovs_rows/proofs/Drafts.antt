-- Rows with changes laid over them: what stands at each place, and the change that they are.
use Rattle.std.proofs.Common.{◌≡◌, ℕ, ◌+◌, List, [], ◌∷◌, ◌++◌, length, ◌<◌, ◌≤◌, Bool, true, false, cond, Option, Some, None, Result, Ok, Err, refl, sym, ap, subst, ◌∙◌, true≢false, arith, ◌⊎◌, inl, inr}
use Rattle.std.specs.Prelude.{unwrap_or, option_map, is_some, OnOk, OnErr, IfSome, MatchOption}
use Rattle.std.specs.List.{AllByRecursion, filter_map, cons_option}
use Rattle.std.proofs.lemmas.List.{length-append, length-map}
use Rattle.std.specs.FinMap.{FinMap, get, insert, entries, keys, empty, contains_key, len, from_entries, get-insert, get-empty, len-insert, len-empty, same_map}
use Rattle.std.specs.Option.{option_or}
use Rattle.std.specs.declared.cmp.Ordering.{Ordering}
use Rattle.std.specs.declared.cmp.Ordering.TheVariants.{Less, Equal, Greater}
use Rattle.std.specs.Ordering.{nat_cmp, MatchOrdering, eq_by_cmp}
use Rattle.std.specs.Cmp.{ranked}
use Rattle.ovs_types.specs.declared.schema.NamedColumn.{NamedColumn}
use Rattle.ovs_types.specs.declared.schema.Table.{Table}
use Rattle.ovs_rows.specs.declared.row_key.RowKey.{RowKey}
use Rattle.ovs_rows.specs.declared.row.Row.{Row}
use Rattle.ovs_rows.specs.declared.change.Action.{Action}
use Rattle.ovs_rows.specs.declared.change.Action.TheVariants.{Modify}
use Rattle.ovs_rows.specs.RowKey.{place_cmp, place_total, place_exact}
use Rattle.ovs_rows.specs.Row.{Rows, AreDataOf, AreRowsOf, IsRowAt, columns_at}
use Rattle.ovs_rows.specs.After.{put_at}
use Rattle.ovs_rows.specs.Scanning.{IsAfter, IsNext, IsPastLast, NoneBelow, row_in, rows_past}
use Rattle.ovs_rows.specs.DatabaseDifference.{action_between, database_difference, edits_between}
use Rattle.ovs_rows.specs.Database.{DatabaseValue}
use Rattle.ovs_rows.specs.Draft.{Overlay, overlaid, DraftValue}
use Rattle.ovs_data.proofs.Maps.{All-entries}
use Rattle.ovs_rows.proofs.Combining.{get-combined}
use Rattle.ovs_rows.proofs.Copying.{put_rows}
use Rattle.ovs_rows.proofs.Gathering.{gathered, given, get-gathered_rows}
use Rattle.ovs_rows.proofs.Laws.{get-database_difference}
use Rattle.ovs_rows.proofs.PlacingSteps.{get-put_at}
use Rattle.ovs_rows.proofs.Scanning.{next_begins, none_begins}
use Rattle.ovs_rows.proofs.RowSteps.{no_edits_itself}

-- what stands at a place
pub get-overlaid : (rows : Rows) (over : Overlay) (p : RowKey) → get (overlaid rows over) p ≡ unwrap_or (get over p) (get rows p)
unfolding overlaid
get-overlaid rows over p = get-combined place_total place_exact (λ p before put. unwrap_or put before) (λ p. refl) rows over p

chosen : (b : Bool) (o : Option Row) (x : Option (Option Row)) (y : Option Row) → unwrap_or (cond b (Some o) x) y ≡ cond b o (unwrap_or x y)
chosen true o x y = refl
chosen false o x y = refl

-- one more change
pub put_over : (rows : Rows) (over : Overlay) (p : RowKey) (o : Option Row) → overlaid rows (insert over p o) ≡ put_at (overlaid rows over) p o
put_over rows over p o = same_map place_total place_exact (overlaid rows (insert over p o)) (put_at (overlaid rows over) p o) (λ q.
    get-overlaid rows (insert over p o) q
    ∙ ap (λ x. unwrap_or x (get rows q)) (get-insert place_total over p o q)
    ∙ chosen (eq_by_cmp place_cmp q p) o (get over q) (get rows q)
    ∙ ap (cond (eq_by_cmp place_cmp q p) o) (sym (get-overlaid rows over q))
    ∙ sym (get-put_at (overlaid rows over) p o q))

-- none
pub nothing_over : (rows : Rows) → overlaid rows empty ≡ rows
nothing_over rows = same_map place_total place_exact (overlaid rows empty) rows (λ q.
    get-overlaid rows empty q ∙ ap (λ x. unwrap_or x (get rows q)) (get-empty place_cmp q))

-- rows of the tables are so with one more, also where memory may have run out
pub over_rows : {T F : Type 0} (tables : List Table) (rows : Rows) (old new : Overlay) (p : RowKey) (o : Option Row) (r : Result T F)
    → AreRowsOf tables (overlaid rows old) → IsRowAt tables p o → OnOk r (new ≡ insert old p o) → OnErr r (new ≡ old) → AreRowsOf tables (overlaid rows new)
over_rows tables rows old new p o (Ok t) h k done same = subst (AreRowsOf tables) (sym (ap (overlaid rows) done ∙ put_over rows old p o)) (put_rows tables (overlaid rows old) p o h k)
over_rows tables rows old new p o (Err e) h k done same = subst (AreRowsOf tables) (sym (ap (overlaid rows) same)) h

pub over_value : {T F : Type 0} (base : DatabaseValue) (old new : Overlay) (p : RowKey) (o : Option Row) (r : Result T F) → OnOk r (new ≡ insert old p o)
    → OnOk r (◌≡◌ {A = DraftValue} (record { before = base; rows = overlaid base.rows new }) (record { before = base; rows = put_at (overlaid base.rows old) p o }))
over_value base old new p o (Ok t) done = λ i. record { before = base; rows = (ap (overlaid base.rows) done ∙ put_over base.rows old p o) i }
over_value base old new p o (Err e) done = tt

-- ---- how many

len-made : (es : List (RowKey × Row)) → len (from_entries {R = place_cmp} es) ≤ length es
len-made [] = omega (arith, len-empty place_cmp Row)
len-made (e ∷ es) = by (contains_key (from_entries {R = place_cmp} es) e.0) (len-insert place_total (from_entries {R = place_cmp} es) e.0 e.1) (len-made es)
  where
    by : (b : Bool) → len (from_entries {R = place_cmp} (e ∷ es)) ≡ cond b (len (from_entries {R = place_cmp} es)) (len (from_entries {R = place_cmp} es) + 1)
        → len (from_entries {R = place_cmp} es) ≤ length es → len (from_entries {R = place_cmp} (e ∷ es)) ≤ length (e ∷ es)
    by true one more = omega (arith, one, more)
    by false one more = omega (arith, one, more)

length-picked : (f : RowKey → Option (RowKey × Row)) (ps : List RowKey) → length (filter_map f ps) ≤ length ps
length-picked f [] = omega arith
length-picked f (p ∷ ps) = by (f p) (length-picked f ps)
  where
    by : (o : Option (RowKey × Row)) → length (filter_map f ps) ≤ length ps → length (cons_option o (filter_map f ps)) ≤ length (p ∷ ps)
    by None more = omega (arith, more)
    by (Some e) more = omega (arith, more)

-- no more rows than there were and are put
pub len-overlaid : (rows : Rows) (over : Overlay) → len (overlaid rows over) ≤ length (entries rows) + length (entries over)
unfolding overlaid
len-overlaid rows over =
    let row_at : RowKey → Option (RowKey × Row) = λ p. option_map (λ row. (p, row)) (unwrap_or (get over p) (get rows p)) in
    let all = keys rows ++ keys over in
    omega (arith, len-made (filter_map row_at all), length-picked row_at all, length-append (keys rows) (keys over), length-map (entries rows) (λ e. e.0), length-map (entries over) (λ e. e.0))

-- ---- the change

between_itself : (columns : List NamedColumn) (row : Option Row) → action_between columns row row ≡ None
between_itself columns None = refl
between_itself columns (Some row) = ap (λ b. cond b (Some (Modify (edits_between columns row.columns row.columns))) None) (no_edits_itself columns row.columns)

-- the action at each place that is changed
abbrev pub action_over : List Table → Rows → RowKey × Option Row → Option Action
action_over tables rows e = action_between (columns_at tables e.0.table) (get rows e.0) e.1

pub overlay_difference : (tables : List Table) (rows : Rows) (over : Overlay)
    → gathered (action_over tables rows) (entries over) empty ≡ database_difference tables rows (overlaid rows over)
overlay_difference tables rows over = same_map place_total place_exact (gathered (action_over tables rows) (entries over) empty) (database_difference tables rows (overlaid rows over)) (λ q.
    get-gathered_rows (action_over tables rows) over empty q
    ∙ ap (option_or (given (action_over tables rows) q (get over q))) (get-empty place_cmp q)
    ∙ by q (get over q)
    ∙ ap (action_between (columns_at tables q.table) (get rows q)) (sym (get-overlaid rows over q))
    ∙ sym (get-database_difference tables rows (overlaid rows over) q))
  where
    itself : (o : Option Action) → option_or o None ≡ o
    itself None = refl
    itself (Some a) = refl

    by : (q : RowKey) (o : Option (Option Row)) → option_or (given (action_over tables rows) q o) None ≡ action_between (columns_at tables q.table) (get rows q) (unwrap_or o (get rows q))
    by q None = sym (between_itself (columns_at tables q.table) (get rows q))
    by q (Some row) = itself (action_between (columns_at tables q.table) (get rows q) row)

-- what is put has data of its table's columns
abbrev pub HaveRows : List Table → List (RowKey × Option Row) → Type 0
HaveRows tables = AllByRecursion (λ e. IfSome e.1 (λ row. AreDataOf (columns_at tables e.0.table) row.columns))

pub have_rows : (tables : List Table) (rows : Rows) (over : Overlay) → AreRowsOf tables (overlaid rows over) → HaveRows tables (entries over)
have_rows tables rows over h = All-entries place_total place_exact over (λ e. IfSome e.1 (λ row. AreDataOf (columns_at tables e.0.table) row.columns)) (λ p o at. by p o (get-overlaid rows over p ∙ ap (λ x. unwrap_or x (get rows p)) at))
  where
    by : (p : RowKey) (o : Option Row) → get (overlaid rows over) p ≡ o → IfSome o (λ row. AreDataOf (columns_at tables p.table) row.columns)
    by p None is = tt
    by p (Some row) is = (h p row is).1

-- ---- the row that is next

-- past the one id is past the other, and what is past the other is past the one or absent
pub record IsGap (table : ℕ) (after last : Option ℕ) (rows : Rows) : Type 0 where
  pub later : (o : ℕ) → IsAfter last o → IsAfter after o
  pub absent : (o : ℕ) → IsAfter after o → (row_in table o rows ≡ None) ⊎ IsAfter last o

pub no_gap : (table : ℕ) (after : Option ℕ) (rows : Rows) → IsGap table after after rows
no_gap table after rows = record { later = λ o h. h; absent = λ o h. inr h }

pub next_over_gap : (table : ℕ) (after last : Option ℕ) (rows : Rows) (id : ℕ) (row : Row) → IsGap table after last rows → IsNext table last rows id row → IsNext table after rows id row
next_over_gap table after last rows id row gap is = (gap.later id is.0, is.1, λ o h lt. by o lt (gap.absent o h))
  where
    by : (o : ℕ) → o < id → (row_in table o rows ≡ None) ⊎ IsAfter last o → row_in table o rows ≡ None
    by o lt (inl none) = none
    by o lt (inr past) = is.2 o past lt

pub last_over_gap : (table : ℕ) (after last : Option ℕ) (rows : Rows) → IsGap table after last rows → IsPastLast table last rows → IsPastLast table after rows
last_over_gap table after last rows gap is o h = by (gap.absent o h)
  where
    by : (row_in table o rows ≡ None) ⊎ IsAfter last o → row_in table o rows ≡ None
    by (inl none) = none
    by (inr past) = is o past

pub below_next : {X : Type 0} (table : ℕ) (last : Option ℕ) (m : FinMap place_cmp X) (b : ℕ) (x : X) (id : ℕ) → IsNext table last m b x → id ≤ b → NoneBelow table last m id
below_next table last m b x id is le o h lt = is.2 o h (omega (arith, le, lt))

pub below_last : {X : Type 0} (table : ℕ) (last : Option ℕ) (m : FinMap place_cmp X) (id : ℕ) → IsPastLast table last m → NoneBelow table last m id
below_last table last m id none o h lt = none o h

module _ (table : ℕ) (last : Option ℕ) (rows : Rows) (over : Overlay) where
  -- a row that isn't changed
  kept_row : (o : ℕ) → row_in table o over ≡ None → row_in table o (overlaid rows over) ≡ row_in table o rows
  kept_row o none = get-overlaid rows over (record { table = table; id = o }) ∙ ap (λ x. unwrap_or x (row_in table o rows)) none

  -- the first of the base, where no change comes up to it
  pub next_of_base : (id : ℕ) (row : Row) → IsNext table last rows id row → ((o : ℕ) → IsAfter last o → o ≤ id → row_in table o over ≡ None) → IsNext table last (overlaid rows over) id row
  next_of_base id row is none = (is.0, kept_row id (none id is.0 (omega arith)) ∙ is.1, λ o h lt. kept_row o (none o h (omega (arith, lt))) ∙ is.2 o h lt)

  -- the same below the first change
  pub next_below : (id first : ℕ) (row : Row) (put : Option Row) → IsNext table last over id put → IsNext table last rows first row → first < id → IsNext table last (overlaid rows over) first row
  next_below id first row put change is lt = next_of_base first row is (λ o h le. change.2 o h (omega (arith, le, lt)))

  pub last_of_base : IsPastLast table last rows → IsPastLast table last over → IsPastLast table last (overlaid rows over)
  last_of_base is none o h = kept_row o (none o h) ∙ is o h

  module _ (id : ℕ) (put : Option Row) (is : IsNext table last over id put) (below : NoneBelow table last rows id) where
    changed_row : row_in table id (overlaid rows over) ≡ put
    changed_row = get-overlaid rows over (record { table = table; id = id }) ∙ ap (λ x. unwrap_or x (row_in table id rows)) is.1

    before_it : (o : ℕ) → IsAfter last o → o < id → row_in table o (overlaid rows over) ≡ None
    before_it o h lt = kept_row o (is.2 o h lt) ∙ below o h lt

    -- the first change, where it puts a row
    pub next_of_change : (row : Row) → put ≡ Some row → IsNext table last (overlaid rows over) id row
    next_of_change row e = (is.0, changed_row ∙ e, before_it)

    later_still : (last : Option ℕ) (o : ℕ) → IsAfter last id → id < o → IsAfter last o
    later_still None o h lt = tt
    later_still (Some a) o h lt = let first : a < id = h in omega (arith, first, lt)

    -- and where it takes one away, the gap is wider
    pub wider_gap : (after : Option ℕ) → put ≡ None → IsGap table after last (overlaid rows over) → IsGap table after (Some id) (overlaid rows over)
    wider_gap after e gap = record {
      later = λ o lt. gap.later o (later_still last o is.0 lt);
      absent = λ o h. by o (gap.absent o h);
    }
      where
        ranks : (o : ℕ) → IsAfter last o → (c : Ordering) → MatchOrdering c (o < id) (o ≡ id) (id < o) → (row_in table o (overlaid rows over) ≡ None) ⊎ (id < o)
        ranks o h Less lt = inl (before_it o h lt)
        ranks o h Equal same = inl (ap (λ i. row_in table i (overlaid rows over)) same ∙ changed_row ∙ e)
        ranks o h Greater lt = inr lt

        by : (o : ℕ) → (row_in table o (overlaid rows over) ≡ None) ⊎ IsAfter last o → (row_in table o (overlaid rows over) ≡ None) ⊎ (id < o)
        by o (inl none) = inl none
        by o (inr past) = ranks o past (nat_cmp o id) (ranked o id (nat_cmp o id) refl)

-- a gap is closed by what is next after it
pub told_next : (table : ℕ) (after last : Option ℕ) (rows : Rows) (id : ℕ) (row : Row) → IsGap table after last rows → IsNext table last rows id row
    → IsNext table after rows id row × (rows_past table after rows ≡ (record { table = table; id = id }, row) ∷ rows_past table (Some id) rows)
told_next table after last rows id row gap is = let next = next_over_gap table after last rows id row gap is in (next, next_begins table after rows id row next)

pub told_last : (table : ℕ) (after last : Option ℕ) (rows : Rows) → IsGap table after last rows → IsPastLast table last rows
    → IsPastLast table after rows × (rows_past table after rows ≡ [])
told_last table after last rows gap is = let none = last_over_gap table after last rows gap is in (none, none_begins table after rows none)

-- what is changed past a change is less
pub fewer : (table : ℕ) (last : Option ℕ) (over : Overlay) (id : ℕ) (put : Option Row) → IsNext table last over id put → length (rows_past table (Some id) over) < length (rows_past table last over)
fewer table last over id put is = let e = next_begins table last over id put is in omega (arith, ap length e)

-- where nothing is changed past the id, what is next is what the base has next
pub told_base : {R : Type 0} (table : ℕ) (after last : Option ℕ) (rows : Rows) (over : Overlay) (id : R → ℕ) (row : R → Row) (o : Option R) → IsGap table after last (overlaid rows over) → IsPastLast table last over
    → MatchOption o (IsPastLast table last rows) (λ r. IsNext table last rows (id r) (row r))
    → MatchOption o (IsPastLast table after (overlaid rows over)) (λ r. IsNext table after (overlaid rows over) (id r) (row r))
    × MatchOption o (rows_past table after (overlaid rows over) ≡ []) (λ r. rows_past table after (overlaid rows over) ≡ (record { table = table; id = id r }, row r) ∷ rows_past table (Some (id r)) (overlaid rows over))
told_base table after last rows over id row None gap none is = told_last table after last (overlaid rows over) gap (last_of_base table last rows over is none)
told_base table after last rows over id row (Some r) gap none is =
    told_next table after last (overlaid rows over) (id r) (row r) gap (next_of_base table last rows over (id r) (row r) is (λ o h le. none o h))

-- a row of the base that comes before the first change
pub told_before : {R : Type 0} (table : ℕ) (after last : Option ℕ) (rows : Rows) (over : Overlay) (change : ℕ) (put : Option Row) (id : R → ℕ) (row : R → Row) (o : Option R) → IsGap table after last (overlaid rows over) → IsNext table last over change put
    → is_some o ≡ true → MatchOption o (NoneBelow table last rows change) (λ r. IsNext table last rows (id r) (row r) × (id r < change))
    → MatchOption o (IsPastLast table after (overlaid rows over)) (λ r. IsNext table after (overlaid rows over) (id r) (row r))
    × MatchOption o (rows_past table after (overlaid rows over) ≡ []) (λ r. rows_past table after (overlaid rows over) ≡ (record { table = table; id = id r }, row r) ∷ rows_past table (Some (id r)) (overlaid rows over))
told_before table after last rows over change put id row None gap next some is = absurd (true≢false (sym some))
told_before table after last rows over change put id row (Some r) gap next some is =
    told_next table after last (overlaid rows over) (id r) (row r) gap (next_below table last rows over change (id r) (row r) put next is.0 is.1)

-- or none that does
pub none_before : {R : Type 0} (o : Option R) (P : Type 0) (Q : R → Type 0) → is_some o ≡ false → MatchOption o P Q → P
none_before None P Q none is = is
none_before (Some r) P Q none is = absurd (true≢false none)
