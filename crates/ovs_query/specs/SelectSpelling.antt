-- The JSON values that stand for a condition, for columns and for a select (RFC 7047 sections 5.1 and 5.2.2).
use Rattle.std.specs.Prelude.{◌≡◌, ◌<◌, ℕ, List, Option, Some, None, codes, length}
use Rattle.std.specs.List.{AllByRecursion}
use Rattle.serde_json.specs.Data.{Data, string, array, Items, no_items, item}
use Rattle.serde_json.specs.Find.{get}
use Rattle.ovs_json.specs.Items.{SpellsEach}
use Rattle.ovs_data.specs.declared.column.Column.{Column}
use Rattle.ovs_data.specs.declared.datum.Datum.{Datum}
use Rattle.ovs_types.specs.declared.schema.NamedColumn.{NamedColumn}
use Rattle.ovs_types.specs.declared.schema.Table.{Table}
use Rattle.ovs_types.specs.Finding.{table_named}
use Rattle.ovs_rows.specs.Row.{columns_at}
use Rattle.ovs_query.specs.declared.conditions.Test.{Test}
use Rattle.ovs_query.specs.declared.conditions.Test.TheVariants.{Less, AtMost, AtLeast, More, Equal, Unequal, Includes, Excludes}
use Rattle.ovs_query.specs.declared.conditions.Condition.{Condition}
use Rattle.ovs_query.specs.declared.select.Select.{Select}
use Rattle.ovs_query.specs.declared.projected.Projected.{Projected}
use Rattle.ovs_query.specs.ConditionReading.{field_named, column_for, all_shown}
use Rattle.ovs_query.specs.View.{IsShownOf}

-- a list of three values
abbrev pub three : Data → Data → Data → Data
three d e f = array (item d (item e (item f no_items)))

-- the name of a function
abbrev pub name_of : Test → List ℕ
name_of Less = codes "<"
name_of AtMost = codes "<="
name_of AtLeast = codes ">="
name_of More = codes ">"
name_of Equal = codes "=="
name_of Unequal = codes "!="
name_of Includes = codes "includes"
name_of Excludes = codes "excludes"

-- ---- columns

-- the name of a field
abbrev pub SpellsShown : List NamedColumn → Data → Projected → Type 0
SpellsShown columns d s = (d ≡ string s.named.name) × (field_named columns s.named.name ≡ Some (s.field, s.named.column))

-- "columns": a list of names, or these where it is absent
abbrev pub SpellsColumns : List Projected → List NamedColumn → Option Data → List Projected → Type 0
SpellsColumns otherwise columns None shown = shown ≡ otherwise
SpellsColumns otherwise columns (Some d) shown = (names : Items) × (d ≡ array names) × SpellsEach (SpellsShown columns) names shown

-- ---- selects, where values spell data of columns so

module _ (Spelled : Column → Data → Datum → Type 0) where
  -- [column, function, value]
  abbrev pub SpellsCondition : List NamedColumn → Data → Condition → Type 0
  SpellsCondition columns d c =
      (name : List ℕ) × (column : Column) × (wanted : Column) × (value : Data) × (d ≡ three (string name) (string (name_of c.test)) value)
      × (field_named columns name ≡ Some (c.field, column)) × (column_for c.test column ≡ Some wanted) × Spelled wanted value c.value

  -- a list of conditions
  abbrev pub SpellsConditions : List NamedColumn → Data → List Condition → Type 0
  SpellsConditions columns d cs = (items : Items) × (d ≡ array items) × SpellsEach (SpellsCondition columns) items cs

  -- a table's name, conditions in "where", and "columns" if not all are meant
  abbrev pub SpellsSelect : List Table → Data → Select → Type 0
  SpellsSelect tables d s =
      (name : List ℕ) × (table : Table) × (conditions : Items) × (get (codes "table") d ≡ Some (string name)) × (table_named tables name ≡ Some (s.table, table))
      × (get (codes "where") d ≡ Some (array conditions)) × SpellsEach (SpellsCondition table.columns) conditions s.conditions
      × SpellsColumns (all_shown table.columns) table.columns (get (codes "columns") d) s.shown

-- a select from one of the tables, of which it shows fields
abbrev pub IsSelectOf : List Table → Select → Type 0
IsSelectOf tables s = (s.table < length tables) × AllByRecursion (IsShownOf (columns_at tables s.table)) s.shown
