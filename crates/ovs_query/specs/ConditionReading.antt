-- The conditions and the columns that JSON values stand for, with the first fault of those that stand for none (RFC 7047 section 5.1).
use Rattle.std.specs.Prelude.{ℕ, ◌+◌, List, [], ◌∷◌, Bool, true, false, ◌&&◌, Option, Some, None, is_none, Result, Ok, Err, if◌then◌else◌, codes, option_map, option_and_then, nat_eq}
use Rattle.std.specs.Cmp.Lexicographic.{pointwise}
use Rattle.std.specs.Option.{ok_or}
use Rattle.serde_json.specs.Data.{Data, Items, no_items, item}
use Rattle.serde_json.specs.Find.{as_str, as_array}
use Rattle.ovs_json.specs.FirstFault.{with_one}
use Rattle.ovs_json.specs.Parts.{three_items}
use Rattle.ovs_json.specs.Results.{◌>>=◌}
use Rattle.ovs_data.specs.declared.atom.AtomKind.{AtomKind}
use Rattle.ovs_data.specs.declared.atom.AtomKind.TheVariants as kinds
use Rattle.ovs_data.specs.declared.column.Column.{Column}
use Rattle.ovs_data.specs.declared.datum.Datum.{Datum}
use Rattle.ovs_data.specs.declared.error.DatumError.{DatumError}
use Rattle.ovs_data.specs.declared.error.DatumError.TheVariants as wrong
use Rattle.ovs_types.specs.declared.schema.NamedColumn.{NamedColumn}
use Rattle.ovs_types.specs.Column.{is_single, loose}
use Rattle.ovs_types.specs.Finding.{column_named}
use Rattle.ovs_types.specs.NamedReading.{NamedIds, read_named}
use Rattle.ovs_types.specs.Reading.{read_datum}
use Rattle.ovs_query.specs.declared.conditions.Test.{Test}
use Rattle.ovs_query.specs.declared.conditions.Test.TheVariants.{Less, AtMost, AtLeast, More, Equal, Unequal, Includes, Excludes}
use Rattle.ovs_query.specs.declared.conditions.Condition.{Condition}
use Rattle.ovs_query.specs.declared.error.QueryError.{QueryError}
use Rattle.ovs_query.specs.declared.error.QueryError.TheVariants.{UnknownColumn, BadCondition, UnknownName}
use Rattle.ovs_query.specs.declared.projected.Field.{Field}
use Rattle.ovs_query.specs.declared.projected.Field.TheVariants.{Id, Version, Column as Numbered}
use Rattle.ovs_query.specs.declared.projected.Projected.{Projected}
use Rattle.ovs_query.specs.Faults.{Read, rank}
use Rattle.ovs_query.specs.Projected.{id_column}

-- the items so far and those of a list, or the first of all their faults
abbrev pub read_items : {X : Type 0} → (Data → Read X) → Read (List X) → Items → Read (List X)
read_items read so_far no_items = so_far
read_items read so_far (item d ds) = read_items read (with_one rank so_far (read d)) ds

-- ---- fields

abbrev pub is : List ℕ → List ℕ → Bool
is s w = pointwise nat_eq s w

-- `_uuid`, `_version`, or a column of the table
abbrev pub field_named : List NamedColumn → List ℕ → Option (Field × Column)
field_named columns name =
    if is name (codes "_uuid") then Some (Id, id_column)
    else if is name (codes "_version") then Some (Version, id_column)
    else option_map (λ p. (Numbered p.0, p.1)) (column_named columns name)

-- ---- conditions

-- the function of a name
abbrev pub test_named : List ℕ → Option Test
test_named s =
    if is s (codes "<") then Some Less
    else if is s (codes "<=") then Some AtMost
    else if is s (codes ">=") then Some AtLeast
    else if is s (codes ">") then Some More
    else if is s (codes "==") then Some Equal
    else if is s (codes "!=") then Some Unequal
    else if is s (codes "includes") then Some Includes
    else if is s (codes "excludes") then Some Excludes
    else None

abbrev pub is_integer : AtomKind → Bool
is_integer kinds.Integer = true
is_integer kinds.Boolean = false
is_integer kinds.String = false
is_integer kinds.Uuid = false

-- exactly one integer
abbrev pub integer_column : Column
integer_column = record { key = kinds.Integer; value = None; may_be_empty = false; most = Some 1 }

-- a column of one integer, or of a set of at most one
abbrev pub has_order : Column → Bool
has_order c = is_integer c.key && (is_none c.value && is_single c)

abbrev pub when_ordered : Column → Option Column
when_ordered c = if has_order c then Some integer_column else None

-- of which column the value of a condition on this one has to be a datum
abbrev pub column_for : Test → Column → Option Column
column_for Less c = when_ordered c
column_for AtMost c = when_ordered c
column_for AtLeast c = when_ordered c
column_for More c = when_ordered c
column_for Equal c = Some c
column_for Unequal c = Some c
column_for Includes c = Some (loose c)
column_for Excludes c = Some (loose c)

-- whatever is wrong with a value, the condition is bad
abbrev pub in_condition : {X : Type 0} → Result X DatumError → Read X
in_condition (Ok x) = Ok x
in_condition (Err e) = Err BadCondition

-- a datum as it is written, with no names for ids
abbrev pub plain : Column → Data → Read Datum
plain c d = in_condition (read_datum c d)

-- the same where names may stand for ids, of which a name that stands for none is told
abbrev pub named_fault : DatumError → QueryError
named_fault wrong.WrongShape = BadCondition
named_fault wrong.WrongKind = BadCondition
named_fault wrong.NotInteger = BadCondition
named_fault wrong.Duplicate = BadCondition
named_fault wrong.WrongCount = BadCondition
named_fault wrong.UnknownName = UnknownName
named_fault wrong.NoMemory = BadCondition

abbrev pub in_named_condition : {X : Type 0} → Result X DatumError → Read X
in_named_condition (Ok x) = Ok x
in_named_condition (Err e) = Err (named_fault e)

abbrev pub named : NamedIds → Column → Data → Read Datum
named names c d = in_named_condition (read_named names c d)

-- [column, function, value], where values are read so
abbrev pub read_condition : (Column → Data → Read Datum) → List NamedColumn → Data → Read Condition
read_condition value columns d = do
  parts ← ok_or (three_items d) BadCondition
  name ← ok_or (as_str parts.0) BadCondition
  field ← ok_or (field_named columns name) UnknownColumn
  test ← ok_or (option_and_then test_named (as_str parts.1)) BadCondition
  column ← ok_or (column_for test field.1) BadCondition
  datum ← value column parts.2
  Ok (record { field = field.0; test = test; value = datum })

abbrev pub read_conditions : (Column → Data → Read Datum) → List NamedColumn → Items → Read (List Condition)
read_conditions value columns = read_items (read_condition value columns) (Ok [])

-- ---- columns

abbrev pub shown_field : List ℕ → Field × Column → Projected
shown_field name p = record { field = p.0; named = record { name = name; column = p.1 } }

-- a column by its name; what is no text has the fault
abbrev pub read_shown : QueryError → List NamedColumn → Data → Read Projected
read_shown fault columns d = do
  name ← ok_or (as_str d) fault
  field ← ok_or (field_named columns name) UnknownColumn
  Ok (shown_field name field)

abbrev pub read_each_shown : QueryError → List NamedColumn → Items → Read (List Projected)
read_each_shown fault columns = read_items (read_shown fault columns) (Ok [])

-- a list of columns by their names
abbrev pub read_listed : QueryError → List NamedColumn → Data → Read (List Projected)
read_listed fault columns d = ok_or (as_array d) fault >>= read_each_shown fault columns

-- the columns of a table, from a number on
abbrev pub numbered_from : ℕ → List NamedColumn → List Projected
numbered_from number [] = []
numbered_from number (c ∷ cs) = record { field = Numbered number; named = c } ∷ numbered_from (number + 1) cs

-- `_version` and all columns
abbrev pub all_but_id : List NamedColumn → List Projected
all_but_id columns = shown_field (codes "_version") (Version, id_column) ∷ numbered_from 0 columns

-- `_uuid`, `_version` and all columns
abbrev pub all_shown : List NamedColumn → List Projected
all_shown columns = shown_field (codes "_uuid") (Id, id_column) ∷ all_but_id columns

-- "columns", where these are meant if it is absent
abbrev pub read_columns : QueryError → List Projected → List NamedColumn → Option Data → Read (List Projected)
read_columns fault otherwise columns None = Ok otherwise
read_columns fault otherwise columns (Some d) = read_listed fault columns d
