-- What is read as a select is spelled so, and what is spelled so is read.
use Rattle.std.proofs.Common.{◌≡◌, ℕ, List, Bool, true, false, cond, Option, Some, None, Ok, Err, refl, sym, ap, subst, ◌∙◌}
use Rattle.std.specs.Prelude.{codes, option_and_then}
use Rattle.std.specs.Cmp.Lexicographic.{bytes_decides}
use Rattle.std.specs.Option.{ok_or}
use Rattle.serde_json.specs.Data.{Data, string, array, Items, no_items, item}
use Rattle.serde_json.specs.Find.{get, as_str, as_array}
use Rattle.ovs_json.specs.Items.{SpellsEach}
use Rattle.ovs_json.specs.Parts.{three_of, three_items}
use Rattle.ovs_json.proofs.Steps.{bind_found, map_found, ok_or_found, same_value, array_of, string_of, string_part}
use Rattle.ovs_json.proofs.Found.{then_found, some_is}
use Rattle.ovs_json.proofs.FaultOrder.{both_found}
use Rattle.ovs_data.specs.declared.column.Column.{Column}
use Rattle.ovs_data.specs.declared.datum.Datum.{Datum}
use Rattle.ovs_data.proofs.Spellings.{datum_found, datum_only, column_found, column_only, named_atoms}
use Rattle.ovs_types.specs.declared.schema.NamedColumn.{NamedColumn}
use Rattle.ovs_types.specs.declared.schema.Table.{Table}
use Rattle.ovs_types.specs.Finding.{table_named}
use Rattle.ovs_types.specs.NamedReading.{NamedIds, read_named, read_named_atom, SpellsNamed, SpellsNamedAtom}
use Rattle.ovs_types.specs.Reading.{read_datum}
use Rattle.ovs_types.specs.Spelling.{Spells}
use Rattle.ovs_query.specs.declared.conditions.Test.{Test}
use Rattle.ovs_query.specs.declared.conditions.Test.TheVariants.{Less, AtMost, AtLeast, More, Equal, Unequal, Includes, Excludes}
use Rattle.ovs_query.specs.declared.conditions.Condition.{Condition}
use Rattle.ovs_query.specs.declared.error.QueryError.{QueryError}
use Rattle.ovs_query.specs.declared.error.QueryError.TheVariants.{UnknownTable, UnknownColumn, BadCondition, BadOperation}
use Rattle.ovs_query.specs.declared.select.Select.{Select}
use Rattle.ovs_query.specs.declared.projected.Projected.{Projected}
use Rattle.ovs_query.specs.Faults.{Read, rank}
use Rattle.ovs_query.specs.ConditionReading.{is, field_named, test_named, column_for, in_condition, plain, in_named_condition, named, read_condition, read_conditions, shown_field, read_shown, read_each_shown, all_shown, read_columns}
use Rattle.ovs_query.specs.SelectReading.{read_where, read_parts, read_select}
use Rattle.ovs_query.specs.SelectSpelling.{three, name_of, SpellsShown, SpellsColumns, SpellsCondition, SpellsConditions, SpellsSelect}
use Rattle.ovs_query.proofs.Items.{items_found, items_only}

-- ---- parts

-- what holds of the value that was made holds of the one that was read
pub read_so : {X : Type 0} (P : X → Type 0) (x y : X) → ◌≡◌ {A = Read X} (Ok x) (Ok y) → P x → P y
read_so P x y e h = subst P (sym (same_value x y e)) h

three_of-is : (ds : Items) (p : Data × Data × Data) → three_of ds ≡ Some p → array ds ≡ three p.0 p.1 p.2
three_of-is no_items p e = absurd cc
three_of-is (item d no_items) p e = absurd cc
three_of-is (item d (item f no_items)) p e = absurd cc
three_of-is (item d (item f (item g no_items))) p e = ap (λ (q : Data × Data × Data). three q.0 q.1 q.2) (some_is (d, f, g) p e)
three_of-is (item d (item f (item g (item h ds)))) p e = absurd cc

three_items-is : (d : Data) (p : Data × Data × Data) → three_items d ≡ Some p → d ≡ three p.0 p.1 p.2
three_items-is d p e =
    let h = then_found (as_array d) three_of p e in
    array_of d h.0 h.1 ∙ three_of-is h.0 p h.2

-- ---- functions

named_by : (s w : List ℕ) (t u : Test) (rest : Option Test) (b : Bool) → is s w ≡ b → w ≡ name_of t → cond b (Some t) rest ≡ Some u → (rest ≡ Some u → s ≡ name_of u) → s ≡ name_of u
named_by s w t u rest true e n h others = (bytes_decides s w).0 e ∙ n ∙ ap name_of (some_is t u h)
named_by s w t u rest false e n h others = others h

test_found : (s : List ℕ) (t : Test) → test_named s ≡ Some t → s ≡ name_of t
test_found s t e =
    named_by s (codes "<") Less t _ _ refl refl e (λ e1.
    named_by s (codes "<=") AtMost t _ _ refl refl e1 (λ e2.
    named_by s (codes ">=") AtLeast t _ _ refl refl e2 (λ e3.
    named_by s (codes ">") More t _ _ refl refl e3 (λ e4.
    named_by s (codes "==") Equal t _ _ refl refl e4 (λ e5.
    named_by s (codes "!=") Unequal t _ _ refl refl e5 (λ e6.
    named_by s (codes "includes") Includes t _ _ refl refl e6 (λ e7.
    named_by s (codes "excludes") Excludes t _ _ refl refl e7 (λ e8. absurd cc))))))))

test_only : (t : Test) → test_named (name_of t) ≡ Some t
test_only Less = refl
test_only AtMost = refl
test_only AtLeast = refl
test_only More = refl
test_only Equal = refl
test_only Unequal = refl
test_only Includes = refl
test_only Excludes = refl

-- the name of a column, that of a function, and a value
condition_is : (d : Data) (p : Data × Data × Data) (name : List ℕ) (t : Test) → three_items d ≡ Some p → as_str p.0 ≡ Some name → option_and_then test_named (as_str p.1) ≡ Some t
    → d ≡ three (string name) (string (name_of t)) p.2
condition_is d p name t whole named tested =
    let word = then_found (as_str p.1) test_named t tested in
    three_items-is d p whole ∙ ap (λ n. three n p.1 p.2) (string_of p.0 name named) ∙ ap (λ w. three (string name) w p.2) (string_of p.1 word.0 word.1 ∙ ap string (test_found word.0 t word.2))

-- ---- columns

module _ (fault : QueryError) (columns : List NamedColumn) where
  shown_found : (d : Data) (s : Projected) → read_shown fault columns d ≡ Ok s → SpellsShown columns d s
  shown_found d s e =
      let name = bind_found (ok_or (as_str d) fault) _ s e in
      let field = bind_found (ok_or (field_named columns name.0) UnknownColumn) _ s name.2 in
      let named = ok_or_found (field_named columns name.0) UnknownColumn field.0 field.1 in
      read_so (SpellsShown columns d) (shown_field name.0 field.0) s field.2 (string_of d name.0 (ok_or_found (as_str d) fault name.0 name.1), named)

  shown_only : (d : Data) (s : Projected) → SpellsShown columns d s → read_shown fault columns d ≡ Ok s
  shown_only d s (is, named) = rw (is, named) refl

  pub columns_found : (otherwise : List Projected) (o : Option Data) (shown : List Projected) → read_columns fault otherwise columns o ≡ Ok shown → SpellsColumns otherwise columns o shown
  columns_found otherwise None shown e = same_value otherwise shown e
  columns_found otherwise (Some d) shown e =
      let names = bind_found (ok_or (as_array d) fault) (read_each_shown fault columns) shown e in
      (names.0, array_of d names.0 (ok_or_found (as_array d) fault names.0 names.1), items_found (read_shown fault columns) (SpellsShown columns) shown_found names.0 shown names.2)

  pub columns_only : (otherwise : List Projected) (o : Option Data) (shown : List Projected) → SpellsColumns otherwise columns o shown → read_columns fault otherwise columns o ≡ Ok shown
  columns_only otherwise None shown e = ap Ok (sym e)
  columns_only otherwise (Some d) shown (names, is, each) = rw is (items_only (read_shown fault columns) (SpellsShown columns) shown_only names shown each)

-- ---- conditions

-- how values are read, and what they spell
module _ (value : Column → Data → Read Datum) (Spelled : Column → Data → Datum → Type 0) where
  module _ (found : (c : Column) (d : Data) (x : Datum) → value c d ≡ Ok x → Spelled c d x) where
    pub condition_found : (columns : List NamedColumn) (d : Data) (c : Condition) → read_condition value columns d ≡ Ok c → SpellsCondition Spelled columns d c
    condition_found columns d c e =
        let parts = bind_found (ok_or (three_items d) BadCondition) _ c e in
        let name = bind_found (ok_or (as_str parts.0.0) BadCondition) _ c parts.2 in
        let field = bind_found (ok_or (field_named columns name.0) UnknownColumn) _ c name.2 in
        let test = bind_found (ok_or (option_and_then test_named (as_str parts.0.1)) BadCondition) _ c field.2 in
        let column = bind_found (ok_or (column_for test.0 field.0.1) BadCondition) _ c test.2 in
        let datum = bind_found (value column.0 parts.0.2) _ c column.2 in
        read_so (SpellsCondition Spelled columns d) (record { field = field.0.0; test = test.0; value = datum.0 }) c datum.2 (
          name.0,
          field.0.1,
          column.0,
          parts.0.2,
          condition_is d parts.0 name.0 test.0 (ok_or_found (three_items d) BadCondition parts.0 parts.1) (ok_or_found (as_str parts.0.0) BadCondition name.0 name.1)
              (ok_or_found (option_and_then test_named (as_str parts.0.1)) BadCondition test.0 test.1),
          ok_or_found (field_named columns name.0) UnknownColumn field.0 field.1,
          ok_or_found (column_for test.0 field.0.1) BadCondition column.0 column.1,
          found column.0 parts.0.2 datum.0 datum.1,
        )

    where_found : (columns : List NamedColumn) (o : Option Data) (cs : List Condition) → read_where value columns o ≡ Ok cs
        → (ds : Items) × (o ≡ Some (array ds)) × SpellsEach (SpellsCondition Spelled columns) ds cs
    where_found columns None cs e = absurd cc
    where_found columns (Some d) cs e =
        let items = bind_found (ok_or (as_array d) BadCondition) (read_conditions value columns) cs e in (
          items.0,
          ap Some (array_of d items.0 (ok_or_found (as_array d) BadCondition items.0 items.1)),
          items_found (read_condition value columns) (SpellsCondition Spelled columns) (condition_found columns) items.0 cs items.2,
        )

    pub conditions_found : (columns : List NamedColumn) (d : Data) (cs : List Condition) → read_where value columns (Some d) ≡ Ok cs → SpellsConditions Spelled columns d cs
    conditions_found columns d cs e =
        let h = where_found columns (Some d) cs e in
        (h.0, (let is : d ≡ array h.0 = cc in is), h.2)

    pub select_found : (tables : List Table) (d : Data) (s : Select) → read_select value tables d ≡ Ok s → SpellsSelect Spelled tables d s
    select_found tables d s e =
        let name = bind_found (ok_or (option_and_then as_str (get (codes "table") d)) BadOperation) _ s e in
        let table = bind_found (ok_or (table_named tables name.0) UnknownTable) _ s name.2 in
        let columns = table.0.1.columns in
        let p = map_found (λ p. record { table = table.0.0; conditions = p.0; shown = p.1 }) (read_parts value columns d) s table.2 in
        let q = both_found rank (read_where value columns (get (codes "where") d)) (read_columns BadOperation (all_shown columns) columns (get (codes "columns") d)) p.0 p.1 in
        let conditions = where_found columns (get (codes "where") d) p.0.0 q.0 in
        subst (SpellsSelect Spelled tables d) (sym p.2) (
          name.0,
          table.0.1,
          conditions.0,
          string_part (get (codes "table") d) name.0 (ok_or_found (option_and_then as_str (get (codes "table") d)) BadOperation name.0 name.1),
          ok_or_found (table_named tables name.0) UnknownTable table.0 table.1,
          conditions.1,
          conditions.2,
          columns_found BadOperation columns (all_shown columns) (get (codes "columns") d) p.0.1 q.1,
        )

  module _ (only : (c : Column) (d : Data) (x : Datum) → Spelled c d x → value c d ≡ Ok x) where
    pub condition_only : (columns : List NamedColumn) (d : Data) (c : Condition) → SpellsCondition Spelled columns d c → read_condition value columns d ≡ Ok c
    condition_only columns d c (name, column, wanted, v, is, named, for, spelled) = rw (is, test_only c.test, named, for, only wanted v c.value spelled) refl

    pub conditions_only : (columns : List NamedColumn) (d : Data) (cs : List Condition) → SpellsConditions Spelled columns d cs → read_where value columns (Some d) ≡ Ok cs
    conditions_only columns d cs (items, is, each) = rw (is, items_only (read_condition value columns) (SpellsCondition Spelled columns) (condition_only columns) items cs each) refl

    pub select_only : (tables : List Table) (d : Data) (s : Select) → SpellsSelect Spelled tables d s → read_select value tables d ≡ Ok s
    select_only tables d s (name, table, conditions, at, named, where', each, shown) =
        rw (
          at,
          named,
          where',
          items_only (read_condition value table.columns) (SpellsCondition Spelled table.columns) (condition_only table.columns) conditions s.conditions each,
          columns_only BadOperation table.columns (all_shown table.columns) (get (codes "columns") d) s.shown shown,
        ) refl

-- ---- data as they are written

pub plain_found : (c : Column) (d : Data) (x : Datum) → plain c d ≡ Ok x → Spells c d x
plain_found c d x e = datum_found c d x (by (read_datum c d) e)
  where
    by : (r : _) → in_condition r ≡ Ok x → r ≡ Ok x
    by (Ok y) e = cc
    by (Err f) e = absurd cc

pub plain_only : (c : Column) (d : Data) (x : Datum) → Spells c d x → plain c d ≡ Ok x
plain_only c d x spelled = ap in_condition (datum_only c d x spelled)

-- ---- data in which names may stand for ids

pub named_found : (names : NamedIds) (c : Column) (d : Data) (x : Datum) → named names c d ≡ Ok x → SpellsNamed names c d x
named_found names c d x e = column_found (read_named_atom names) (SpellsNamedAtom names) (named_atoms names) c d x (by (read_named names c d) e)
  where
    by : (r : _) → in_named_condition r ≡ Ok x → r ≡ Ok x
    by (Ok y) e = cc
    by (Err f) e = absurd cc

pub named_only : (names : NamedIds) (c : Column) (d : Data) (x : Datum) → SpellsNamed names c d x → named names c d ≡ Ok x
named_only names c d x spelled = ap in_named_condition (column_only (read_named_atom names) (SpellsNamedAtom names) (named_atoms names) c d x spelled)
