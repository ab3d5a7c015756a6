-- The tests of rows say what the database's invariant wants; what a change did is put in a database so that it stays one.
use Rattle.std.proofs.Common.{◌≡◌, ◌<◌, ◌≤◌, ℕ, suc, length, List, [], ◌∷◌, ◌++◌, ◌+◌, map, take, Bool, true, false, cond, ◌&&◌, true≢false, get_or, ◌⊎◌, inl, inr, Option, Some, None, Result, Ok, Err, refl, sym, ap, subst, ◌∙◌, arith}
use Rattle.std.specs.Prelude.{IfSome, ◌↔◌, slice_get, OnOk, OnErr}
use Rattle.std.specs.FinMap.{get, entries}
use Rattle.std.specs.List.{AllByRecursion}
use Rattle.std.specs.List.Sorted.{IsStrictlySortedBy}
use Rattle.std.specs.declared.cmp.Ordering.TheVariants.{Less}
use Rattle.std.proofs.lemmas.List.{map-append, take_more}
use Rattle.std.proofs.lemmas.Option.{slice_get_within, slice_get_cases}
use Rattle.ovs_data.specs.declared.datum.Datum.{Datum}
use Rattle.ovs_data.proofs.Admitting.{admits_is, is_admitted}
use Rattle.std.specs.Cmp.{first_so, second_so}
use Rattle.ovs_data.proofs.Maps.{All-entries}
use Rattle.ovs_types.specs.Admitting.{admits}
use Rattle.ovs_types.specs.Schema.{SchemaValue}
use Rattle.ovs_types.specs.declared.schema.NamedColumn.{NamedColumn}
use Rattle.ovs_types.specs.declared.schema.Table.{Table}
use Rattle.ovs_rows.specs.declared.row_key.RowKey.{RowKey}
use Rattle.ovs_rows.specs.declared.row.Row.{Row}
use Rattle.ovs_rows.specs.declared.change.Action.{Action}
use Rattle.ovs_rows.specs.Change.{Actions, IsChangeOf}
use Rattle.ovs_rows.specs.RowKey.{place_cmp, place_total, place_exact}
use Rattle.ovs_rows.specs.declared.applied.Touched.{Touched}
use Rattle.ovs_rows.specs.Applied.{AscendByPlace, seen}
use Rattle.ovs_rows.specs.Row.{Rows, AreDataOf, AreRowsOf, IsRowAt, columns_in, columns_at}
use Rattle.ovs_rows.specs.Database.{DatabaseValue}
use Rattle.ovs_rows.specs.After.{TouchedRow, ArePutOf, touched_row, applied_of, after_action, applied_to}
use Rattle.ovs_rows.specs.Admitting.{admit_all, table_admits, admitted_at, admitted, absorbed}
use Rattle.ovs_rows.proofs.Copying.{told_rows}
use Rattle.ovs_rows.proofs.RowSteps.{row_after_kept}

both : (a b : Bool) → a ≡ true → b ≡ true → (a && b) ≡ true
both a b h k = rw (h, k) refl

-- ---- rows

pub lengths_differ : (cs : List NamedColumn) (xs : List Datum) → (length cs ≡ length xs → ⊥) → admit_all cs xs ≡ false
lengths_differ [] [] h = absurd (h refl)
lengths_differ [] (x ∷ xs) h = refl
lengths_differ (c ∷ cs) [] h = refl
lengths_differ (c ∷ cs) (x ∷ xs) h = rw (lengths_differ cs xs (λ e. h (ap suc e))) (none (admits c.column x))
  where
    none : (b : Bool) → (b && false) ≡ false
    none true = refl
    none false = refl

all_are : (cs : List NamedColumn) (xs : List Datum) → admit_all cs xs ≡ true → AreDataOf cs xs
all_are [] [] h = tt
all_are (c ∷ cs) (x ∷ xs) h = (admits_is c.column x (first_so (admits c.column x) (admit_all cs xs) h), all_are cs xs (second_so (admits c.column x) (admit_all cs xs) h))
all_are [] (x ∷ xs) h = absurd (true≢false (sym h))
all_are (c ∷ cs) [] h = absurd (true≢false (sym h))

are_all : (cs : List NamedColumn) (xs : List Datum) → AreDataOf cs xs → admit_all cs xs ≡ true
are_all [] [] h = refl
are_all (c ∷ cs) (x ∷ xs) h = both (admits c.column x) (admit_all cs xs) (is_admitted c.column x h.0) (are_all cs xs h.1)
are_all [] (x ∷ xs) h = absurd h
are_all (c ∷ cs) [] h = absurd h

not_past : (tables : List Table) (n : ℕ) → n < length tables → slice_get tables n ≡ None → ⊥
not_past tables n lt is = by (slice_get_cases tables n).1
  where
    by : ((x : Table) × (n < length tables) × (slice_get tables n ≡ Some x) × (get_or tables n x ≡ x)) ⊎ ((length tables ≤ n) × (slice_get tables n ≡ None)) → ⊥
    by (inl (x, within, some, same)) = let clash : None ≡ Some x = sym is ∙ some in absurd cc
    by (inr (past, none)) = omega (arith, lt, past)

pub row_is : (tables : List Table) (p : RowKey) (row : Option Row) → admitted_at tables p row ≡ true → IsRowAt tables p row
row_is tables p None h = tt
row_is tables p (Some row) h =
    elim (slice_get tables p.table) as (λ o. slice_get tables p.table ≡ o → table_admits o (Some row) ≡ true → (p.table < length tables) × AreDataOf (columns_in o) row.columns) [
      | None ↦ λ is f. absurd (true≢false (sym f))
      | Some table ↦ λ is f. (slice_get_within tables p.table table is, all_are table.columns row.columns f)
    ] refl h

pub is_row : (tables : List Table) (p : RowKey) (row : Option Row) → IsRowAt tables p row → admitted_at tables p row ≡ true
is_row tables p None h = no_row (slice_get tables p.table)
  where
    no_row : (o : Option Table) → table_admits o None ≡ true
    no_row None = refl
    no_row (Some table) = refl
is_row tables p (Some row) h =
    elim (slice_get tables p.table) as (λ o. slice_get tables p.table ≡ o → AreDataOf (columns_in o) row.columns → table_admits o (Some row) ≡ true) [
      | None ↦ λ is f. absurd (not_past tables p.table h.0 is)
      | Some table ↦ λ is f. are_all table.columns row.columns f
    ] refl h.1

pub row_decides : (r : Bool) (tables : List Table) (p : RowKey) (row : Option Row) → r ≡ admitted_at tables p row → (r ≡ true) ↔ IsRowAt tables p row
row_decides r tables p row is = (λ h. row_is tables p row (sym is ∙ h), λ h. is ∙ is_row tables p row h)

-- ---- rows that a change told

admitted-append : (tables : List Table) (us vs : List TouchedRow) → admitted tables (us ++ vs) ≡ admitted tables us ++ admitted tables vs
admitted-append tables [] vs = refl
admitted-append tables (u ∷ us) vs =
    elim (admitted_at tables u.place u.after) as (λ b. cond b (u ∷ admitted tables (us ++ vs)) (admitted tables (us ++ vs)) ≡ cond b (u ∷ admitted tables us) (admitted tables us) ++ admitted tables vs) [
      | true ↦ ap (λ (rows : List TouchedRow). u ∷ rows) (admitted-append tables us vs)
      | false ↦ admitted-append tables us vs
    ]

-- one more row
pub admitted_next : (tables : List Table) (touched : List Touched) (i : ℕ) (row : Touched) (before more : List Touched) → i < length touched → row ≡ get_or touched i row
    → map seen before ≡ admitted tables (map seen (take i touched)) → map seen more ≡ map seen before ++ admitted tables (seen row ∷ [])
    → map seen more ≡ admitted tables (map seen (take (i + 1) touched))
admitted_next tables touched i row before more within is so_far step =
    step
    ∙ ap (λ (rows : List TouchedRow). rows ++ admitted tables (seen row ∷ [])) so_far
    ∙ sym (admitted-append tables (map seen (take i touched)) (seen row ∷ []))
    ∙ ap (admitted tables) (sym (ap (map seen) (take_more touched i row within ∙ ap (λ (t : Touched). take i touched ++ t ∷ []) (sym is)) ∙ map-append seen (take i touched) (row ∷ [])))

pub admitted_put : (tables : List Table) (us : List TouchedRow) → ArePutOf tables (admitted tables us)
admitted_put tables [] = tt
admitted_put tables (u ∷ us) =
    elim (admitted_at tables u.place u.after) as (λ b. admitted_at tables u.place u.after ≡ b → ArePutOf tables (cond b (u ∷ admitted tables us) (admitted tables us))) [
      | true ↦ λ is. (row_is tables u.place u.after is, admitted_put tables us)
      | false ↦ λ is. admitted_put tables us
    ] refl

-- where all may, they are all
pub admitted_all : (tables : List Table) (us : List TouchedRow) → ArePutOf tables us → admitted tables us ≡ us
admitted_all tables [] h = refl
admitted_all tables (u ∷ us) h = rw (is_row tables u.place u.after h.0) (ap (λ vs. u ∷ vs) (admitted_all tables us h.1))

kept_all : (P : RowKey → Type 0) (tables : List Table) (us : List TouchedRow) → AllByRecursion P (map (λ t. t.place) us) → AllByRecursion P (map (λ t. t.place) (admitted tables us))
kept_all P tables [] h = tt
kept_all P tables (u ∷ us) h =
    elim (admitted_at tables u.place u.after) as (λ b. AllByRecursion P (map (λ t. t.place) (cond b (u ∷ admitted tables us) (admitted tables us)))) [
      | true ↦ (h.0, kept_all P tables us h.1)
      | false ↦ kept_all P tables us h.1
    ]

pub admitted_ascend : (tables : List Table) (us : List TouchedRow) → AscendByPlace us → AscendByPlace (admitted tables us)
unfolding IsStrictlySortedBy
admitted_ascend tables [] h = h
admitted_ascend tables (u ∷ us) h =
    elim (admitted_at tables u.place u.after) as (λ b. AscendByPlace (cond b (u ∷ admitted tables us) (admitted tables us))) [
      | true ↦ (kept_all (λ q. place_cmp u.place q ≡ Less) tables us h.0, admitted_ascend tables us h.1)
      | false ↦ admitted_ascend tables us h.1
    ]

pub absorbed_whole : (tables : List Table) (rows : Rows) (us : List TouchedRow) → ArePutOf tables us → absorbed tables rows us ≡ applied_to rows us
absorbed_whole tables rows us h = ap (applied_to rows) (admitted_all tables us h)

pub whole_too : {T F : Type 0} (schema : SchemaValue) (old new : Rows) (us : List TouchedRow) (r : Result T F)
    → OnOk r (new ≡ absorbed schema.description.tables old us)
    → OnOk r (ArePutOf schema.description.tables us → ◌≡◌ {A = DatabaseValue} (record { schema = schema; rows = new }) (record { schema = schema; rows = applied_to old us }))
whole_too schema old new us (Ok t) is = λ h. λ i. record { schema = schema; rows = (is ∙ absorbed_whole schema.description.tables old us h) i }
whole_too schema old new us (Err e) is = tt

pub absorbed_rows : {T F : Type 0} (ts : List Table) (old new : Rows) (us : List TouchedRow) (r : Result T F) → AreRowsOf ts old
    → OnOk r (new ≡ absorbed ts old us) → OnErr r (new ≡ old) → AreRowsOf ts new
absorbed_rows ts old new us (Ok t) h done same = subst (AreRowsOf ts) (sym done) (told_rows ts old (admitted ts us) h (admitted_put ts us))
absorbed_rows ts old new us (Err e) h done same = subst (AreRowsOf ts) (sym same) h

-- ---- a change of the tables

if_some : {X : Type 0} (o : Option X) (P : X → Type 0) → ((x : X) → o ≡ Some x → P x) → IfSome o P
if_some None P h = tt
if_some (Some x) P h = h x refl

at_place : (ts : List Table) (p : RowKey) (r : Option Row) → p.table < length ts → IfSome r (λ row. AreDataOf (columns_at ts p.table) row.columns) → IsRowAt ts p r
at_place ts p None lt h = tt
at_place ts p (Some row) lt h = (lt, h)

-- what it did to rows of the tables may stand there
module _ (ts : List Table) (rows : Rows) (change : Actions) (version : ℕ) (h : AreRowsOf ts rows) (k : IsChangeOf ts change) where
  after_of : (p : RowKey) (a : Action) → get change p ≡ Some a → IsRowAt ts p (after_action (columns_at ts p.table) version a (get rows p))
  after_of p a e =
      at_place ts p (after_action (columns_at ts p.table) version a (get rows p)) (k p a e).0
      (if_some (after_action (columns_at ts p.table) version a (get rows p)) (λ row. AreDataOf (columns_at ts p.table) row.columns) (λ r is.
      row_after_kept (columns_at ts p.table) version (Some a) (get rows p) r (k p a e).1 (if_some (get rows p) (λ row. AreDataOf (columns_at ts p.table) row.columns) (λ r e. (h p r e).1)) is))

  each_of : (es : List (RowKey × Action)) → AllByRecursion (λ e. IsRowAt ts e.0 (after_action (columns_at ts e.0.table) version e.1 (get rows e.0))) es → ArePutOf ts (map (touched_row ts rows version) es)
  each_of [] all = tt
  each_of (e ∷ es) all = (all.0, each_of es all.1)

  pub applied_put : ArePutOf ts (applied_of ts rows change version)
  applied_put = each_of (entries change) (All-entries place_total place_exact change (λ e. IsRowAt ts e.0 (after_action (columns_at ts e.0.table) version e.1 (get rows e.0))) after_of)
