-- The fault that reading a select gives is the worst that the value has.
use Rattle.std.proofs.Common.{◌≡◌, List, Option, Some, None, Ok, Err, refl, ap, arith}
use Rattle.std.specs.Prelude.{codes, option_and_then}
use Rattle.std.specs.Option.{ok_or}
use Rattle.serde_json.specs.Data.{Data}
use Rattle.serde_json.specs.Find.{get, as_str, as_array}
use Rattle.ovs_json.specs.FirstFault.{IsWorst}
use Rattle.ovs_json.specs.Parts.{three_items}
use Rattle.ovs_json.specs.Results.{◌>>=◌}
use Rattle.ovs_json.proofs.FaultOrder.{map_worst, both_worst, spelled_worst}
use Rattle.ovs_data.specs.declared.column.Column.{Column}
use Rattle.ovs_data.specs.declared.datum.Datum.{Datum}
use Rattle.ovs_types.specs.declared.schema.NamedColumn.{NamedColumn}
use Rattle.ovs_types.specs.declared.schema.Table.{Table}
use Rattle.ovs_types.specs.Finding.{table_named}
use Rattle.ovs_types.specs.NamedReading.{NamedIds}
use Rattle.ovs_types.specs.Reading.{read_datum}
use Rattle.ovs_types.specs.Spelling.{Spells}
use Rattle.ovs_query.specs.declared.error.QueryError.{QueryError}
use Rattle.ovs_query.specs.declared.error.QueryError.TheVariants.{UnknownTable, UnknownColumn, BadCondition, BadOperation}
use Rattle.ovs_query.specs.declared.projected.Projected.{Projected}
use Rattle.ovs_query.specs.Faults.{Read, rank}
use Rattle.ovs_query.specs.ConditionReading.{field_named, test_named, column_for, in_condition, plain, named, read_condition, read_conditions, shown_field, read_shown, read_each_shown, read_listed, all_shown, read_columns}
use Rattle.ovs_query.specs.SelectReading.{read_where, read_parts, read_select}
use Rattle.ovs_query.specs.QueryFaults.{InNeeded, InOptional, SomeItem, InShown, InColumns, InPlain, InNamed, InCondition, InConditions, InParts, InSelect}
use Rattle.ovs_query.proofs.Items.{items_worst}
use Rattle.ovs_query.proofs.SelectLaws.{plain_found, plain_only}

abbrev pub Worst : {X : Type 0} → (QueryError → Type 0) → Read X → Type 0
Worst Has r = IsWorst rank Has r

-- ---- parts

-- a part that has to be there
pub needed_worst : {X Y : Type 0} (absent : QueryError) (read : X → Read Y) (Has : X → QueryError → Type 0) → ((x : X) → Worst (Has x) (read x)) → (o : Option X)
    → Worst (InNeeded absent Has o) (ok_or o absent >>= read)
needed_worst absent read Has each None = (refl, λ f h. (let same : rank f ≡ rank absent = ap rank h in omega arith))
needed_worst absent read Has each (Some x) = each x

-- what is made of a value that was read
pub then_worst : {X Y : Type 0} (Has : QueryError → Type 0) (f : X → Y) (r : Read X) → Worst Has r → Worst Has (r >>= λ x. Ok (f x))
then_worst Has f (Ok x) h = h
then_worst Has f (Err e) h = h

-- ---- columns

module _ (fault : QueryError) (columns : List NamedColumn) where
  shown_worst : (d : Data) → Worst (InShown fault columns d) (read_shown fault columns d)
  shown_worst d =
      needed_worst fault _ _
      (λ name. needed_worst UnknownColumn (λ field. Ok (shown_field name field)) (λ field e. ⊥) (λ field e none. none) (field_named columns name))
      (as_str d)

  listed_worst : (d : Data) → Worst (InColumns fault columns d) (read_listed fault columns d)
  listed_worst d = needed_worst fault (read_each_shown fault columns) (SomeItem (InShown fault columns)) (items_worst (read_shown fault columns) (InShown fault columns) shown_worst) (as_array d)

  pub columns_worst : (otherwise : List Projected) (o : Option Data) → Worst (InOptional (InColumns fault columns) o) (read_columns fault otherwise columns o)
  columns_worst otherwise None = λ e none. none
  columns_worst otherwise (Some d) = listed_worst d

-- ---- conditions and selects

module _ (value : Column → Data → Read Datum) (InValue : Column → Data → QueryError → Type 0) (each : (c : Column) (d : Data) → Worst (InValue c d) (value c d)) where
  pub condition_worst : (columns : List NamedColumn) (d : Data) → Worst (InCondition InValue columns d) (read_condition value columns d)
  condition_worst columns d =
      needed_worst BadCondition _ _
      (λ parts. needed_worst BadCondition _ _
      (λ name. needed_worst UnknownColumn _ _
      (λ field. needed_worst BadCondition _ _
      (λ test. needed_worst BadCondition _ _
      (λ column. then_worst (InValue column parts.2) (λ datum. record { field = field.0; test = test; value = datum }) (value column parts.2) (each column parts.2))
      (column_for test field.1))
      (option_and_then test_named (as_str parts.1)))
      (field_named columns name))
      (as_str parts.0))
      (three_items d)

  pub conditions_worst : (columns : List NamedColumn) (d : Data) → Worst (InConditions InValue columns d) (ok_or (as_array d) BadCondition >>= read_conditions value columns)
  conditions_worst columns d =
      needed_worst BadCondition (read_conditions value columns) (SomeItem (InCondition InValue columns)) (items_worst (read_condition value columns) (InCondition InValue columns) (condition_worst columns)) (as_array d)

  where_worst : (columns : List NamedColumn) (o : Option Data) → Worst (InNeeded BadOperation (InConditions InValue columns) o) (read_where value columns o)
  where_worst columns None = (refl, λ f h. (let same : rank f ≡ rank BadOperation = ap rank h in omega arith))
  where_worst columns (Some d) = conditions_worst columns d

  parts_worst : (columns : List NamedColumn) (d : Data) → Worst (InParts InValue columns d) (read_parts value columns d)
  parts_worst columns d =
      both_worst rank (InNeeded BadOperation (InConditions InValue columns) (get (codes "where") d)) (InOptional (InColumns BadOperation columns) (get (codes "columns") d))
      (read_where value columns (get (codes "where") d)) (read_columns BadOperation (all_shown columns) columns (get (codes "columns") d))
      (where_worst columns (get (codes "where") d)) (columns_worst BadOperation columns (all_shown columns) (get (codes "columns") d))

  pub select_worst : (tables : List Table) (d : Data) → Worst (InSelect InValue tables d) (read_select value tables d)
  select_worst tables d =
      needed_worst BadOperation _ _
      (λ name. needed_worst UnknownTable _ _
      (λ table. map_worst rank (InParts InValue table.1.columns d) (λ p. record { table = table.0; conditions = p.0; shown = p.1 }) (read_parts value table.1.columns d) (parts_worst table.1.columns d))
      (table_named tables name))
      (option_and_then as_str (get (codes "table") d))

-- ---- data as they are written

pub plain_worst : (c : Column) (d : Data) → Worst (InPlain c d) (plain c d)
plain_worst c d = spelled_worst rank BadCondition (Spells c d) (plain c d) (by (read_datum c d)) (plain_found c d) (plain_only c d)
  where
    by : (r : _) → (e : QueryError) → in_condition {X = Datum} r ≡ Err e → e ≡ BadCondition
    by (Ok x) e h = absurd cc
    by (Err f) e h = cc

-- ---- data in which names may stand for ids

pub named_worst : (names : NamedIds) (c : Column) (d : Data) → Worst (InNamed names c d) (named names c d)
named_worst names c d = by (named names c d)
  where
    by : (r : Read Datum) → Worst (λ e. r ≡ Err e) r
    by (Ok x) = λ e h. absurd cc
    by (Err f) = (refl, λ e h. (let same : rank f ≡ rank e = ap rank (let is : f ≡ e = cc in is) in omega arith))
