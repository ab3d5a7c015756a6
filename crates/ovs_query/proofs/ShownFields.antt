-- What is read as a shown column is a field of its table under its name.
use Rattle.std.proofs.Common.{◌≡◌, ℕ, suc, ◌+◌, List, [], ◌∷◌, Bool, true, false, cond, Option, Some, None, refl, sym, ap, subst, ◌∙◌, arith}
use Rattle.std.specs.Prelude.{codes, option_map, slice_get}
use Rattle.std.specs.List.{AllByRecursion}
use Rattle.serde_json.specs.Data.{Data, Items, no_items, item}
use Rattle.serde_json.specs.Find.{get}
use Rattle.ovs_json.specs.Items.{SpellsEach}
use Rattle.ovs_json.proofs.Found.{some_is}
use Rattle.ovs_data.specs.declared.column.Column.{Column}
use Rattle.ovs_data.specs.declared.datum.Datum.{Datum}
use Rattle.ovs_types.specs.declared.schema.NamedColumn.{NamedColumn}
use Rattle.ovs_types.specs.declared.schema.Table.{Table}
use Rattle.ovs_types.specs.Finding.{column_named, table_named}
use Rattle.ovs_types.proofs.Finders.{column_at, table_at, found_within}
use Rattle.ovs_rows.specs.Row.{columns_in, columns_at}
use Rattle.ovs_query.specs.declared.select.Select.{Select}
use Rattle.ovs_query.specs.declared.projected.Field.{Field}
use Rattle.ovs_query.specs.declared.projected.Field.TheVariants.{Id, Version, Column as Numbered}
use Rattle.ovs_query.specs.declared.projected.Projected.{Projected}
use Rattle.ovs_query.specs.Projected.{id_column}
use Rattle.ovs_query.specs.View.{IsField, IsShownOf}
use Rattle.ovs_query.specs.ConditionReading.{is, field_named, numbered_from, all_but_id, all_shown}
use Rattle.ovs_query.specs.SelectSpelling.{SpellsShown, SpellsColumns, SpellsSelect, IsSelectOf}

-- ---- fields by their names

by_number : (columns : List NamedColumn) (name : List ℕ) (o : Option (ℕ × Column)) (p : Field × Column) → column_named columns name ≡ o → option_map (λ (q : ℕ × Column). (Numbered q.0, q.1)) o ≡ Some p
    → IsField columns p.0 (record { name = name; column = p.1 })
by_number columns name None p at e = absurd cc
by_number columns name (Some q) p at e =
    subst (λ (r : Field × Column). IsField columns r.0 (record { name = name; column = r.1 })) (some_is (Numbered q.0, q.1) p e) (column_at columns name q.0 q.1 at)

by_tests : (columns : List NamedColumn) (name : List ℕ) (id version : Bool) (rest : Option (Field × Column)) (p : Field × Column)
    → cond id (Some (Id, id_column)) (cond version (Some (Version, id_column)) rest) ≡ Some p → (rest ≡ Some p → IsField columns p.0 (record { name = name; column = p.1 }))
    → IsField columns p.0 (record { name = name; column = p.1 })
by_tests columns name true version rest p e others = subst (λ (r : Field × Column). IsField columns r.0 (record { name = name; column = r.1 })) (some_is (Id, id_column) p e) refl
by_tests columns name false true rest p e others = subst (λ (r : Field × Column). IsField columns r.0 (record { name = name; column = r.1 })) (some_is (Version, id_column) p e) refl
by_tests columns name false false rest p e others = others e

-- the field of a name is one of the columns under it
pub field_is : (columns : List NamedColumn) (name : List ℕ) (p : Field × Column) → field_named columns name ≡ Some p → IsField columns p.0 (record { name = name; column = p.1 })
field_is columns name p e = by_tests columns name _ _ _ p e (by_number columns name (column_named columns name) p refl)

module _ (columns : List NamedColumn) where
  listed_are : (names : Items) (shown : List Projected) → SpellsEach (SpellsShown columns) names shown → AllByRecursion (IsShownOf columns) shown
  listed_are no_items [] h = tt
  listed_are no_items (s ∷ ss) h = absurd h
  listed_are (item d ds) [] h = absurd h
  listed_are (item d ds) (s ∷ ss) h = (field_is columns s.named.name (s.field, s.named.column) h.0.1, listed_are ds ss h.1)

  -- ---- all columns

  numbered_are : (number : ℕ) (cs : List NamedColumn) → ((k : ℕ) → slice_get cs k ≡ slice_get columns (number + k)) → AllByRecursion (IsShownOf columns) (numbered_from number cs)
  numbered_are number [] same = tt
  numbered_are number (c ∷ cs) same = (
    (let here : number + 0 ≡ number = omega arith in sym (same 0 ∙ ap (slice_get columns) here)),
    numbered_are (number + 1) cs (λ k. (let next : number + suc k ≡ number + 1 + k = omega arith in same (suc k) ∙ ap (slice_get columns) next)),
  )

  pub all_but_id_are : AllByRecursion (IsShownOf columns) (all_but_id columns)
  all_but_id_are = (refl, numbered_are 0 columns (λ k. (let same : k ≡ 0 + k = omega arith in ap (slice_get columns) same)))

  pub all_are : AllByRecursion (IsShownOf columns) (all_shown columns)
  all_are = (refl, all_but_id_are)

  pub columns_are : (otherwise : List Projected) → AllByRecursion (IsShownOf columns) otherwise → (o : Option Data) (shown : List Projected) → SpellsColumns otherwise columns o shown → AllByRecursion (IsShownOf columns) shown
  columns_are otherwise are None shown e = subst (AllByRecursion (IsShownOf columns)) (sym e) are
  columns_are otherwise are (Some d) shown (names, is, each) = listed_are names shown each

-- ---- selects

-- the columns of a table that was found
pub columns_found_at : (tables : List Table) (name : List ℕ) (number : ℕ) (table : Table) → table_named tables name ≡ Some (number, table) → columns_at tables number ≡ table.columns
columns_found_at tables name number table e = ap columns_in (table_at tables name number table e).0

pub select_of_tables : (Spelled : Column → Data → Datum → Type 0) (tables : List Table) (d : Data) (s : Select) → SpellsSelect Spelled tables d s → IsSelectOf tables s
select_of_tables Spelled tables d s (name, table, conditions, at, named, where', each, shown) = (
  found_within (λ t. t.name) (λ t. t) tables name s.table table named,
  subst (λ cs. AllByRecursion (IsShownOf cs) s.shown) (sym (columns_found_at tables name s.table table named))
      (columns_are table.columns (all_shown table.columns) (all_are table.columns) (get (codes "columns") d) s.shown shown),
)
