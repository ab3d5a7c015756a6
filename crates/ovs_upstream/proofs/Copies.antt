-- A whole copy, and what differs from what is known.
use Rattle.std.proofs.Common.{◌≡◌, ◌≢◌, ◌==◌, ℕ, Bool, true, false, List, Option, Some, None, refl, ap, sym, subst, ◌∙◌, arith}
use Rattle.std.proofs.lemmas.Bool.Decides.{nat_tests}
use Rattle.std.specs.Prelude.{IfSome, IsSome, option_map}
use Rattle.std.specs.FinMap.{empty, get, same_map, len as map_len, len-empty, empty_of_len}
use Rattle.ovs_data.specs.declared.datum.Datum.{Datum}
use Rattle.ovs_types.specs.declared.schema.NamedColumn.{NamedColumn}
use Rattle.ovs_types.specs.declared.schema.Table.{Table}
use Rattle.ovs_rows.specs.declared.change.Action.{Action}
use Rattle.ovs_rows.specs.declared.change.Action.TheVariants.{Insert, Delete, Modify}
use Rattle.ovs_rows.specs.declared.error.ApplyError.{ApplyError}
use Rattle.ovs_rows.specs.declared.error.ApplyError.TheVariants.{RowThere, NoRow, NoMemory}
use Rattle.ovs_rows.specs.declared.row.Row.{Row}
use Rattle.ovs_rows.specs.declared.row_key.RowKey.{RowKey}
use Rattle.ovs_rows.specs.After.{FitsAt, Fits, InsertsPresent, Tells, fits, row_after, after}
use Rattle.ovs_rows.specs.Change.{Actions}
use Rattle.ovs_rows.specs.DatabaseDifference.{action_between, database_difference, edits_between, modified, IsActionBetween, HaveSameData}
use Rattle.ovs_rows.specs.Row.{Rows, columns_at, AreDataOf, AreRowsOf}
use Rattle.ovs_rows.specs.RowKey.{place_cmp, place_total, place_exact}
use Rattle.ovs_rows.proofs.Laws.{fits_decides, get-after, get-database_difference}
use Rattle.ovs_rows.proofs.RowSteps.{action_between_is, row_after_between}

-- ---- tests

pub by_test : (b : Bool) → (b ≡ true → ⊥) → b ≡ false
by_test true apart = absurd (apart refl)
by_test false apart = refl

len_test : (n : ℕ) → (n == 0) ≡ true → n ≡ 0
len_test n same = grind (arith, nat_tests)

pub empty_test : (d : Actions) → d ≡ empty → (map_len d == 0) ≡ true
empty_test d none = ap (λ m. map_len m == 0) none ∙ ap (λ n. n == 0) (len-empty place_cmp Action)

pub some_test : (d : Actions) → (d ≡ empty → ⊥) → (map_len d == 0) ≡ false
some_test d some = by_test (map_len d == 0) (λ same. some (empty_of_len d (len_test (map_len d) same)))

pub fits_test : (rows : Rows) (c : Actions) → Fits rows c → fits rows c ≡ true
fits_test rows c fit = (fits_decides rows c).1 fit

taken_unfit : (rows : Rows) (c : Actions) → InsertsPresent rows c → Fits rows c → ⊥
taken_unfit rows c taken fit =
    let none : get rows taken.0 ≡ None = subst (λ o. FitsAt o (get rows taken.0)) taken.2 (fit taken.0) in
    let there : IsSome {T = Row} None = subst (λ (o : Option Row). IsSome o) none taken.3 in absurd cc

pub unfit_test : (rows : Rows) (c : Actions) (e : ApplyError) → Tells e rows c → e ≢ NoMemory → fits rows c ≡ false
unfit_test rows c RowThere tells other = by_test (fits rows c) (λ fit. taken_unfit rows c tells ((fits_decides rows c).0 fit))
unfit_test rows c NoRow tells other = by_test (fits rows c) (λ fit. tells.1 ((fits_decides rows c).0 fit))
unfit_test rows c NoMemory tells other = absurd (other refl)

-- ---- the difference leads to the data of the copy

abbrev columns_of : Option Row → Option (List Datum)
columns_of = option_map (λ (r : Row). r.columns)

-- of a row that both have
both_after : (columns : List NamedColumn) (id : ℕ) (old new : Row) → AreDataOf columns old.columns → AreDataOf columns new.columns
    → columns_of (row_after columns id (action_between columns (Some old) (Some new)) (Some old)) ≡ Some new.columns
both_after columns id old new of_old of_new =
    by (action_between columns (Some old) (Some new)) refl (action_between_is columns (Some old) (Some new) of_old of_new)
  where
    renewed : Row
    renewed = record { version = id; columns = new.columns }

    by : (act : Option Action) → action_between columns (Some old) (Some new) ≡ act → IsActionBetween columns (Some old) (Some new) act
        → columns_of (row_after columns id act (Some old)) ≡ Some new.columns
    by None same is = ap Some (sym is)
    by (Some (Modify edits)) same is =
        ap (λ a. columns_of (row_after columns id a (Some old))) (sym same)
        ∙ ap columns_of (row_after_between columns id (Some old) (Some renewed) of_old of_new ((λ equal. absurd (is.0 equal)), (λ other. refl)))
    by (Some (Insert made)) same is = absurd is
    by (Some Delete) same is = absurd is

data_after : (columns : List NamedColumn) (id : ℕ) (old new : Option Row) → IfSome old (λ row. AreDataOf columns row.columns)
    → IfSome new (λ row. AreDataOf columns row.columns)
    → columns_of (row_after columns id (action_between columns old new) old) ≡ columns_of new
data_after columns id None None of_old of_new = refl
data_after columns id None (Some new) of_old of_new = refl
data_after columns id (Some old) None of_old of_new = refl
data_after columns id (Some old) (Some new) of_old of_new = both_after columns id old new of_old of_new

data_at : (ts : List Table) (rows : Rows) → AreRowsOf ts rows → (p : RowKey) → IfSome (get rows p) (λ row. AreDataOf (columns_at ts p.table) row.columns)
data_at ts rows h p = by (get rows p) refl
  where
    by : (o : Option Row) → get rows p ≡ o → IfSome o (λ row. AreDataOf (columns_at ts p.table) row.columns)
    by None at = tt
    by (Some row) at = (h p row at).1

pub leads_to_data : (ts : List Table) (a b : Rows) (id : ℕ) → AreRowsOf ts a → AreRowsOf ts b → HaveSameData b (after ts a (database_difference ts a b) id)
leads_to_data ts a b id h k p =
    ap columns_of (get-after ts a (database_difference ts a b) id p ∙ ap (λ x. row_after (columns_at ts p.table) id x (get a p)) (get-database_difference ts a b p))
    ∙ data_after (columns_at ts p.table) id (get a p) (get b p) (data_at ts a h p) (data_at ts b k p)

-- ---- versions are not compared

between_same : (columns : List NamedColumn) (old others new more : Option Row) → columns_of old ≡ columns_of others → columns_of new ≡ columns_of more
    → action_between columns old new ≡ action_between columns others more
between_same columns None None None None a b = refl
between_same columns None None None (Some m) a b = absurd cc
between_same columns None None (Some n) None a b = absurd cc
between_same columns None None (Some n) (Some m) a b = let same : n.columns ≡ m.columns = cc in ap (λ made. Some (Insert made)) same
between_same columns None (Some o) new more a b = absurd cc
between_same columns (Some o) None new more a b = absurd cc
between_same columns (Some o) (Some p) None None a b = refl
between_same columns (Some o) (Some p) None (Some m) a b = absurd cc
between_same columns (Some o) (Some p) (Some n) None a b = absurd cc
between_same columns (Some o) (Some p) (Some n) (Some m) a b =
    let before : o.columns ≡ p.columns = cc in
    let later : n.columns ≡ m.columns = cc in
    ap (λ (x : List Datum). modified (edits_between columns x n.columns)) before ∙ ap (λ (x : List Datum). modified (edits_between columns p.columns x)) later

pub difference_same : (ts : List Table) (a b c d : Rows) → HaveSameData b a → HaveSameData d c → database_difference ts a c ≡ database_difference ts b d
difference_same ts a b c d before later = same_map place_total place_exact (database_difference ts a c) (database_difference ts b d) (λ p.
    get-database_difference ts a c p
    ∙ between_same (columns_at ts p.table) (get a p) (get b p) (get c p) (get d p) (before p) (later p)
    ∙ sym (get-database_difference ts b d p))
