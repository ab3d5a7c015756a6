-- Why a JSON value is no select: which faults it has, wherever they stand in it. Those of conditions and columns are a monitor's too.
use Rattle.std.specs.Prelude.{◌≡◌, ◌⊎◌, List, Option, Some, None, Err, codes, option_and_then}
use Rattle.serde_json.specs.Data.{Data, Items, no_items, item}
use Rattle.serde_json.specs.Find.{get, as_str, as_array}
use Rattle.ovs_json.specs.Parts.{three_items}
use Rattle.ovs_data.specs.declared.column.Column.{Column}
use Rattle.ovs_data.specs.declared.datum.Datum.{Datum}
use Rattle.ovs_types.specs.declared.schema.NamedColumn.{NamedColumn}
use Rattle.ovs_types.specs.declared.schema.Table.{Table}
use Rattle.ovs_types.specs.Finding.{table_named}
use Rattle.ovs_types.specs.NamedReading.{NamedIds}
use Rattle.ovs_types.specs.Spelling.{Spells}
use Rattle.ovs_query.specs.declared.conditions.Test.{Test}
use Rattle.ovs_query.specs.declared.error.QueryError.{QueryError}
use Rattle.ovs_query.specs.declared.error.QueryError.TheVariants.{UnknownTable, UnknownColumn, BadCondition, BadOperation}
use Rattle.ovs_query.specs.ConditionReading.{field_named, test_named, column_for, named}

-- a part that has to be there: its absence is this fault
abbrev pub InNeeded : {X : Type 0} → QueryError → (X → QueryError → Type 0) → Option X → QueryError → Type 0
InNeeded absent Has None e = e ≡ absent
InNeeded absent Has (Some x) e = Has x e

-- a part that may be absent
abbrev pub InOptional : {X : Type 0} → (X → QueryError → Type 0) → Option X → QueryError → Type 0
InOptional Has None e = ⊥
InOptional Has (Some x) e = Has x e

-- some item has it
abbrev pub SomeItem : (Data → QueryError → Type 0) → Items → QueryError → Type 0
SomeItem Has no_items e = ⊥
SomeItem Has (item d ds) e = Has d e ⊎ SomeItem Has ds e

-- ---- columns

-- a column by its name; what is no text has the fault
abbrev pub InShown : QueryError → List NamedColumn → Data → QueryError → Type 0
InShown fault columns d = InNeeded fault (λ name. InNeeded UnknownColumn (λ field e. ⊥) (field_named columns name)) (as_str d)

-- a list of columns
abbrev pub InColumns : QueryError → List NamedColumn → Data → QueryError → Type 0
InColumns fault columns d = InNeeded fault (SomeItem (InShown fault columns)) (as_array d)

-- ---- conditions

-- a value that is no datum of the column
abbrev pub InPlain : Column → Data → QueryError → Type 0
InPlain c d e = (e ≡ BadCondition) × ((x : Datum) → Spells c d x → ⊥)

-- a value's first fault, where names may stand for ids
abbrev pub InNamed : NamedIds → Column → Data → QueryError → Type 0
InNamed names c d e = named names c d ≡ Err e

-- which faults a value has
module _ (InValue : Column → Data → QueryError → Type 0) where
  -- a function of this name on a column, and its value
  abbrev pub InTest : Column → Data → Option Test → QueryError → Type 0
  InTest column value test = InNeeded BadCondition (λ t. InNeeded BadCondition (λ wanted. InValue wanted value) (column_for t column)) test

  -- [column, function, value]: a column that there isn't, or anything else that is wrong
  abbrev pub InCondition : List NamedColumn → Data → QueryError → Type 0
  InCondition columns d =
      InNeeded BadCondition
      (λ parts. InNeeded BadCondition (λ name. InNeeded UnknownColumn (λ field. InTest field.1 parts.2 (option_and_then test_named (as_str parts.1))) (field_named columns name)) (as_str parts.0))
      (three_items d)

  -- a list of conditions
  abbrev pub InConditions : List NamedColumn → Data → QueryError → Type 0
  InConditions columns d = InNeeded BadCondition (SomeItem (InCondition columns)) (as_array d)

  -- ---- selects

  -- "where", which has to be there, and "columns"
  abbrev pub InParts : List NamedColumn → Data → QueryError → Type 0
  InParts columns d e = InNeeded BadOperation (InConditions columns) (get (codes "where") d) e ⊎ InOptional (InColumns BadOperation columns) (get (codes "columns") d) e

  -- the table, or else one of the parts
  abbrev pub InSelect : List Table → Data → QueryError → Type 0
  InSelect tables d =
      InNeeded BadOperation (λ name. InNeeded UnknownTable (λ table. InParts table.1.columns d) (table_named tables name))
      (option_and_then as_str (get (codes "table") d))
