-- Rows that are altered one after the other.
use Rattle.std.proofs.Common.{◌≡◌, ◌≢◌, ℕ, suc, ◌≤◌, length, List, [], ◌∷◌, Bool, true, false, cond, ◌&&◌, true≢false, Option, Some, None, Result, Ok, Err, refl, sym, ◌∙◌, ap, subst, arith}
use Rattle.std.specs.Prelude.{filter, nat_lt, T, ◌==◌, option_map, ◌<◌, IfOk, IfErr, IfSome}
use Rattle.std.specs.Cmp.Lexicographic.{pointwise, pointwise_decides}
use Rattle.std.specs.FinMap.{get, entries, is_sorted, from_sorted, entries-from_sorted, entries_sorted, get-from_sorted, get-entries, same_map, len, len-entries}
use Rattle.std.specs.FinMap.Entries.{is_sorted-where_key}
use Rattle.std.proofs.lemmas.Bool.Decides.{nat_tests}
use Rattle.std.proofs.lemmas.List.Sums.{length-filter, count_by-le-length}
use Rattle.ovs_json.specs.Results.{◌>>=◌, result_map}
use Rattle.ovs_data.specs.declared.datum.Datum.{Datum}
use Rattle.ovs_data.proofs.Equalities.{datum_decides}
use Rattle.ovs_types.specs.declared.schema.NamedColumn.{NamedColumn}
use Rattle.ovs_types.specs.declared.schema.Table.{Table}
use Rattle.ovs_types.specs.Equality.{datum_eq}
use Rattle.ovs_rows.specs.declared.row_key.RowKey.{RowKey}
use Rattle.ovs_rows.specs.declared.row.Row.{Row}
use Rattle.ovs_rows.specs.RowKey.{place_cmp, place_total, place_exact}
use Rattle.ovs_rows.specs.Row.{Rows, IsRowAt, AreDataOf, columns_at}
use Rattle.ovs_rows.specs.After.{put_at}
use Rattle.ovs_rows.specs.DatabaseDifference.{IsVersioned, IsCommit}
use Rattle.ovs_rows.specs.Scanning.{is_after, rows_past}
use Rattle.ovs_rows.proofs.PlaceOrder.{at, same_place}
use Rattle.ovs_rows.proofs.PlacingSteps.{get-put_at}
use Rattle.ovs_rows.proofs.Copying.{put_rows}
use Rattle.ovs_rows.proofs.Scanning.{find_kept}
use Rattle.ovs_query.specs.declared.conditions.Condition.{Condition}
use Rattle.ovs_query.specs.Conditions.{all_hold, AdmitOnly}
use Rattle.ovs_query.proofs.OneRow.{one_left}
use Rattle.ovs_operations.specs.declared.operation_error.OperationError.{OperationError}
use Rattle.ovs_operations.specs.declared.operation.Alteration.{Alteration}
use Rattle.ovs_operations.specs.OperationError.{Read}
use Rattle.ovs_operations.specs.Altering.{RunResult, row_of, altered, matches, put_altered, alter_one, alter_each, alter_all, alter_at}

-- ---- the rows after one that is set

abbrev kept : (RowKey → Bool) → Rows → List (RowKey × Row)
kept p m = filter (λ e. p e.0) (entries m)

kept_map : (p : RowKey → Bool) (m : Rows) → T (is_sorted place_cmp (kept p m))
kept_map p m = is_sorted-where_key place_cmp p (entries m) (entries_sorted m)

kept_get : (p : RowKey → Bool) (m : Rows) (q : RowKey) → get (from_sorted {R = place_cmp} (kept p m)) q ≡ cond (p q) (get m q) None
kept_get p m q =
    get-from_sorted place_cmp (kept p m) q (kept_map p m)
    ∙ find_kept p q (entries m)
    ∙ ap (λ o. cond (p q) o None) (sym (get-entries m q))

-- maps with the same rows where a test passes have the same entries there
kept_same : (p : RowKey → Bool) (m n : Rows) → ((q : RowKey) → p q ≡ true → get m q ≡ get n q) → kept p m ≡ kept p n
kept_same p m n h =
    sym (entries-from_sorted place_cmp (kept p m) (kept_map p m))
    ∙ ap entries (same_map place_total place_exact (from_sorted (kept p m)) (from_sorted (kept p n)) (λ q. kept_get p m q ∙ by q (p q) refl ∙ sym (kept_get p n q)))
    ∙ entries-from_sorted place_cmp (kept p n) (kept_map p n)
  where
    by : (q : RowKey) (b : Bool) → p q ≡ b → cond b (get m q) None ≡ cond b (get n q) None
    by q true e = h q e
    by q false e = refl

not_itself : (table id : ℕ) → (nat_lt id id && (table == table)) ≡ true → ⊥
not_itself table id e = grind (arith, nat_tests)

-- a row that is set is none of those after it
pub past_set : (rows : Rows) (p : RowKey) (o : Option Row) → rows_past p.table (Some p.id) (put_at rows p o) ≡ rows_past p.table (Some p.id) rows
past_set rows p o = kept_same past (put_at rows p o) rows (λ q later. get-put_at rows p o q ∙ by q later (at q p) refl)
  where
    past : RowKey → Bool
    past q = is_after (Some p.id) q.id && (q.table == p.table)

    by : (q : RowKey) → past q ≡ true → (b : Bool) → at q p ≡ b → cond b o (get rows q) ≡ get rows q
    by q later true e = absurd (not_itself p.table p.id (ap past (sym (same_place q p e)) ∙ later))
    by q later false e = refl

-- no more rows of a table than there are
pub few : (table : ℕ) (rows : Rows) → length (rows_past table None rows) ≤ len rows
few table rows = omega (arith, length-filter (λ (e : RowKey × Row). e.0.table == table) (entries rows), count_by-le-length (λ (e : RowKey × Row). e.0.table == table) (entries rows), len-entries rows)

-- ---- versions

pub versioned : (id : ℕ) (before : Option Row) (columns : List Datum) → IsVersioned id before (Some (row_of id before columns))
versioned id None columns = refl
versioned id (Some old) columns = by (pointwise datum_eq columns old.columns) refl
  where
    by : (b : Bool) → pointwise datum_eq columns old.columns ≡ b → (columns ≡ old.columns → cond b old.version id ≡ old.version) × (columns ≢ old.columns → cond b old.version id ≡ id)
    by true e = (λ same. refl, λ apart. absurd (apart ((pointwise_decides datum_decides columns old.columns).0 e)))
    by false e = (λ same. absurd (true≢false (sym ((pointwise_decides datum_decides columns old.columns).1 same) ∙ e)), λ apart. refl)

pub versioned_if : (id : ℕ) (before : Option Row) (columns : Option (List Datum)) → IsVersioned id before (option_map (row_of id before) columns)
versioned_if id before None = tt
versioned_if id before (Some columns) = versioned id before columns

-- a row that is set keeps the versions of a commit
pub set_commit : (ts : List Table) (id : ℕ) (before rows : Rows) (p : RowKey) (o : Option Row) → IsRowAt ts p o → IsVersioned id (get before p) o → IsCommit ts before rows id → IsCommit ts before (put_at rows p o) id
set_commit ts id before rows p o is v k = record {
  before = k.before;
  after = put_rows ts rows p o k.after is;
  versions = λ q. subst (IsVersioned id (get before q)) (sym (get-put_at rows p o q)) (by q (at q p) refl);
}
  where
    by : (q : RowKey) (b : Bool) → at q p ≡ b → IsVersioned id (get before q) (cond b o (get rows q))
    by q true e = subst (λ x. IsVersioned id (get before x) o) (sym (same_place q p e)) v
    by q false e = k.versions q

-- a row that is put is one of the tables
pub row_kept : (ts : List Table) (id : ℕ) (p : RowKey) (before o : Option Row) (columns : Option (List Datum)) → p.table < length ts → IfSome columns (AreDataOf (columns_at ts p.table)) → o ≡ option_map (row_of id before) columns → IsRowAt ts p o
row_kept ts id p before o None lt kept is = subst (IsRowAt ts p) (sym is) tt
row_kept ts id p before o (Some columns) lt kept is = subst (IsRowAt ts p) (sym is) (lt, kept)

pub row_commit : (ts : List Table) (id : ℕ) (before rows : Rows) (p : RowKey) (old o : Option Row) (columns : Option (List Datum)) → old ≡ get before p → o ≡ option_map (row_of id old) columns → IsRowAt ts p o
    → IsCommit ts before rows id → IsCommit ts before (put_at rows p o) id
row_commit ts id before rows p old o columns was is at k =
    set_commit ts id before rows p o at (subst (IsVersioned id (get before p)) (sym (is ∙ ap (λ b. option_map (row_of id b) columns) was)) (versioned_if id (get before p) columns)) k

-- ---- what a call answers

module _ {X E F : Type 0} (P Q : X → Type 0) where
  pub ok_weaker : (r : Result (Result X E) F) → ((x : X) → P x → Q x) → IfOk r (λ s. IfOk s P) → IfOk r (λ s. IfOk s Q)
  ok_weaker (Ok (Ok x)) f h = f x h
  ok_weaker (Ok (Err e)) f h = tt
  ok_weaker (Err e) f h = tt

module _ {X E F : Type 0} (P Q : E → Type 0) where
  pub err_weaker : (r : Result (Result X E) F) → ((e : E) → P e → Q e) → IfOk r (λ s. IfErr s P) → IfOk r (λ s. IfErr s Q)
  err_weaker (Ok (Ok x)) f h = tt
  err_weaker (Ok (Err e)) f h = f e h
  err_weaker (Err e) f h = tt

-- ---- one row

module _ (id : ℕ) (before : Rows) (cs : List NamedColumn) (test : RowKey × Row → Bool) (a : Alteration) where
  pub at_absent : (c : RunResult) (p : RowKey) (o : Option Row) → None ≡ o → alter_at id before cs test a c p o ≡ Ok c
  at_absent c p o is = rw (← is) refl

  pub at_other : (c : RunResult) (p : RowKey) (row : Row) (o : Option Row) → Some row ≡ o → test (p, row) ≡ false → alter_at id before cs test a c p o ≡ Ok c
  at_other c p row o is other = rw (← is, other) refl

  pub at_match : (c : RunResult) (p : RowKey) (row : Row) (o : Option Row) (r : Read (Option (List Datum))) → Some row ≡ o → test (p, row) ≡ true → r ≡ altered cs a row.columns
      → alter_at id before cs test a c p o ≡ result_map (put_altered id before c p) r
  at_match c p row o r is match made = rw (← is, match, made) refl

  -- ---- one turn of the loop over the rows

  past_one : (c d : RunResult) (p : RowKey) (row : Row) → alter_one id before cs test a c (p, row) ≡ Ok d → rows_past p.table (Some p.id) d.rows ≡ rows_past p.table (Some p.id) c.rows
  past_one c d p row e = by (test (p, row)) (altered cs a row.columns) e
    where
      by : (b : Bool) (r : Read (Option (List Datum))) → cond b (result_map (put_altered id before c p) r) (Ok c) ≡ Ok d → rows_past p.table (Some p.id) d.rows ≡ rows_past p.table (Some p.id) c.rows
      by false r e = let same : c ≡ d = cc in ap (λ (x : RunResult). rows_past p.table (Some p.id) x.rows) (sym same)
      by true (Err f) e = absurd cc
      by true (Ok o) e =
          let same : put_altered id before c p o ≡ d = cc in
          ap (λ (x : RunResult). rows_past p.table (Some p.id) x.rows) (sym same) ∙ past_set c.rows p (option_map (row_of id (get before p)) o)

  -- the row that comes next, whose id goes by another name where it is altered
  module _ (c : RunResult) (last : Option ℕ) (table next : ℕ) (row : Row) (rest : rows_past table last c.rows ≡ (record { table = table; id = next }, row) ∷ rows_past table (Some next) c.rows) (stands : get c.rows (record { table = table; id = next }) ≡ Some row) where
    abbrev here : ℕ → RowKey
    here k = record { table = table; id = k }

    rest_is : (k : ℕ) → next ≡ k → rows_past table last c.rows ≡ (here k, row) ∷ rows_past table (Some k) c.rows
    rest_is k same = rw same at rest

    one_is : (k : ℕ) (r : Read RunResult) → alter_at id before cs test a c (here k) (get c.rows (here k)) ≡ r → next ≡ k → alter_one id before cs test a c (here k, row) ≡ r
    one_is k r e same = let there = rw same at stands in rw there at e

    pub one_turn : (k : ℕ) (d : RunResult) (all : Read RunResult) → alter_at id before cs test a c (record { table = table; id = k }) (get c.rows (record { table = table; id = k })) ≡ Ok d
        → alter_each id before cs test a c (rows_past table last c.rows) ≡ all → next ≡ k → alter_each id before cs test a d (rows_past table (Some k) d.rows) ≡ all
    one_turn k d all one so_far same =
        ap (alter_each id before cs test a d) (past_one c d (here k) row (one_is k (Ok d) one same))
        ∙ sym (ap (λ (r : Read RunResult). r >>= λ x. alter_each id before cs test a x (rows_past table (Some k) c.rows)) (one_is k (Ok d) one same))
        ∙ sym (ap (alter_each id before cs test a c) (rest_is k same))
        ∙ so_far

    pub one_fewer : (k : ℕ) (d : RunResult) → alter_at id before cs test a c (record { table = table; id = k }) (get c.rows (record { table = table; id = k })) ≡ Ok d → next ≡ k
        → length (rows_past table last c.rows) ≡ suc (length (rows_past table (Some k) d.rows))
    one_fewer k d one same = ap length (rest_is k same) ∙ ap suc (ap length (sym (past_one c d (here k) row (one_is k (Ok d) one same))))

    -- the turn that finds a fault
    pub one_fault : (k : ℕ) (f : OperationError) (all : Read RunResult) → alter_at id before cs test a c (record { table = table; id = k }) (get c.rows (record { table = table; id = k })) ≡ Err f
        → alter_each id before cs test a c (rows_past table last c.rows) ≡ all → next ≡ k → all ≡ Err f
    one_fault k f all one so_far same =
        sym so_far ∙ ap (alter_each id before cs test a c) (rest_is k same)
        ∙ ap (λ (r : Read RunResult). r >>= λ x. alter_each id before cs test a x (rows_past table (Some k) c.rows)) (one_is k (Err f) one same)

  -- ---- where one row alone can match

  only_matching : (c : RunResult) (es : List (RowKey × Row)) → alter_each id before cs test a c es ≡ alter_each id before cs test a c (filter test es)
  only_matching c [] = refl
  only_matching c (e ∷ es) = by (test e) refl (λ d. only_matching d es)
    where
      after : (r : Read RunResult) → ((d : RunResult) → alter_each id before cs test a d es ≡ alter_each id before cs test a d (filter test es))
          → (r >>= λ d. alter_each id before cs test a d es) ≡ (r >>= λ d. alter_each id before cs test a d (filter test es))
      after (Ok d) more = more d
      after (Err f) more = refl

      by : (b : Bool) → test e ≡ b → ((d : RunResult) → alter_each id before cs test a d es ≡ alter_each id before cs test a d (filter test es))
          → alter_each id before cs test a c (e ∷ es) ≡ alter_each id before cs test a c (cond b (e ∷ filter test es) (filter test es))
      by true is more = after (alter_one id before cs test a c e) more
      by false is more = rw is (more c)

  one_alone : (c : RunResult) (e : RowKey × Row) → alter_each id before cs test a c (e ∷ []) ≡ alter_one id before cs test a c e
  one_alone c e = by (alter_one id before cs test a c e)
    where
      by : (r : Read RunResult) → (r >>= λ d. Ok d) ≡ r
      by (Ok d) = refl
      by (Err f) = refl

pub alone : (id : ℕ) (before : Rows) (cs : List NamedColumn) (a : Alteration) (conditions : List Condition) (table row_id : ℕ) (rows : Rows) → AdmitOnly row_id conditions
    → alter_at id before cs (matches conditions) a (record { rows = rows; count = 0 }) (record { table = table; id = row_id }) (get rows (record { table = table; id = row_id }))
    ≡ alter_all id before cs (matches conditions) a table rows
alone id before cs a conditions table row_id rows only = sym (only_matching id before cs (matches conditions) a start (rows_past table None rows) ∙ by (get rows here) refl)
  where
    here : RowKey
    here = record { table = table; id = row_id }

    start : RunResult
    start = record { rows = rows; count = 0 }

    each : List (RowKey × Row) → Read RunResult
    each = alter_each id before cs (matches conditions) a start

    one : (row : Row) (b : Bool) → all_hold conditions row_id row ≡ b → each (cond b ((here, row) ∷ []) []) ≡ alter_one id before cs (matches conditions) a start (here, row)
    one row true e = one_alone id before cs (matches conditions) a start (here, row)
    one row false e = rw e refl

    by : (o : Option Row) → get rows here ≡ o → each (filter (matches conditions) (rows_past table None rows)) ≡ alter_at id before cs (matches conditions) a start here o
    by None e = ap each (rw e at (one_left conditions table row_id only rows))
    by (Some row) e = ap each (rw e at (one_left conditions table row_id only rows)) ∙ one row (all_hold conditions row_id row) refl
