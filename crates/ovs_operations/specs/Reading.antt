-- The operations that JSON values stand for, with the first fault of those that stand for none (RFC 7047 section 5.2).
use Rattle.std.specs.Prelude.{ℕ, List, [], Bool, not, ◌&&◌, ◌||◌, Option, Some, None, is_none, is_some, Ok, Err, if◌then◌else◌, codes, option_and_then, nat_eq}
use Rattle.std.specs.Cmp.Lexicographic.{pointwise}
use Rattle.std.specs.FinMap as map
use Rattle.std.specs.Option.{ok_or, option_eq}
use Rattle.serde_json.specs.Data.{Data, Items, no_items, item, Members, no_members, member}
use Rattle.serde_json.specs.Find.{get, as_str, as_array, as_object, as_bool}
use Rattle.ovs_json.specs.FirstFault.{both, with_one}
use Rattle.ovs_json.specs.Parts.{begins_with, three_items}
use Rattle.ovs_json.specs.Results.{◌>>=◌, result_map}
use Rattle.ovs_data.specs.declared.column.Column.{Column}
use Rattle.ovs_types.specs.declared.schema.NamedColumn.{NamedColumn}
use Rattle.ovs_types.specs.declared.schema.Table.{Table}
use Rattle.ovs_types.specs.Column.{is_single, loose, keys_column}
use Rattle.ovs_types.specs.Finding.{column_named, table_named}
use Rattle.ovs_types.specs.NamedReading.{NamedIds, read_named}
use Rattle.ovs_types.specs.Names.{is_id}
use Rattle.ovs_query.specs.declared.conditions.Condition.{Condition}
use Rattle.ovs_query.specs.ConditionReading.{named, is_integer}
use Rattle.ovs_query.specs.SelectReading.{read_where, read_select}
use Rattle.ovs_operations.specs.declared.operation_error.OperationError.TheVariants.{UnknownTable, UnknownColumn, DuplicateName, NotSupported, Aborted, NotOwner, BadOperation}
use Rattle.ovs_operations.specs.declared.operation.Mutator.{Mutator}
use Rattle.ovs_operations.specs.declared.operation.Mutator.TheVariants.{Set, Add, Subtract, Insert, Delete}
use Rattle.ovs_operations.specs.declared.operation.Mutation.{Mutation}
use Rattle.ovs_operations.specs.declared.operation.Alteration.{Alteration}
use Rattle.ovs_operations.specs.declared.operation.Alteration.TheVariants as alters
use Rattle.ovs_operations.specs.declared.operation.Altering.{Altering}
use Rattle.ovs_operations.specs.declared.operation.Altering.TheVariants as ways
use Rattle.ovs_operations.specs.declared.operation.Operation.{Operation}
use Rattle.ovs_operations.specs.declared.operation.Operation.TheVariants as does
use Rattle.ovs_operations.specs.OperationError.{Read, rank, in_value, in_query}

abbrev pub is : List ℕ → List ℕ → Bool
is s w = pointwise nat_eq s w

-- the items so far and those of a list, or the first of all their faults
abbrev pub read_items : {X : Type 0} → (Data → Read X) → Read (List X) → Items → Read (List X)
read_items read so_far no_items = so_far
read_items read so_far (item d ds) = read_items read (with_one rank so_far (read d)) ds

-- the same of the members of an object
abbrev pub read_members : {X : Type 0} → (List ℕ → Data → Read X) → Read (List X) → Members → Read (List X)
read_members read so_far no_members = so_far
read_members read so_far (member name d ms) = read_members read (with_one rank so_far (read name d)) ms

-- ---- mutators

-- exactly one element
abbrev pub is_scalar : Column → Bool
is_scalar c = is_none c.value && (is_single c && not c.may_be_empty)

abbrev pub read_mutator : Option (List ℕ) → Read Mutator
read_mutator None = Err BadOperation
read_mutator (Some s) =
    if is s (codes "+=") then Ok Add
    else if is s (codes "-=") then Ok Subtract
    else if is s (codes "insert") then Ok Insert
    else if is s (codes "delete") then Ok Delete
    else if is s (codes "*=") || (is s (codes "/=") || is s (codes "%=")) then Err NotSupported
    else Err BadOperation

-- sums are of one integer; of a set of integers they are not supported
abbrev pub summed_column : Column → Read Column
summed_column c = if is_integer c.key && is_none c.value then (if is_scalar c then Ok c else Err NotSupported) else Err BadOperation

-- what is deleted from a map is a map, or else a set of keys
abbrev pub deleted_column : Column → Data → Column
deleted_column c d = if is_some c.value && not (begins_with (codes "map") d) then keys_column c else loose c

-- of which column the value of a mutator on this one has to be a datum
abbrev pub value_column : Mutator → Column → Data → Read Column
value_column Set c d = Ok c
value_column Add c d = summed_column c
value_column Subtract c d = summed_column c
value_column Insert c d = if is_scalar c then Err BadOperation else Ok (loose c)
value_column Delete c d = if is_scalar c then Err BadOperation else Ok (deleted_column c d)

-- the column of a name, with its number
abbrev pub read_column : List NamedColumn → Data → Read (ℕ × Column)
read_column columns d = do
  name ← ok_or (as_str d) BadOperation
  ok_or (column_named columns name) UnknownColumn

-- "table", with its number
abbrev pub read_table : List Table → Data → Read (ℕ × Table)
read_table tables d = do
  name ← ok_or (option_and_then as_str (get (codes "table") d)) BadOperation
  ok_or (table_named tables name) UnknownTable

-- ---- with the ids of the transaction's names

module _ (names : NamedIds) where
  -- a mutator of this column, with its value
  abbrev pub read_mutation_of : ℕ × Column → Mutator → Data → Read Mutation
  read_mutation_of column mutator d = do
    wanted ← value_column mutator column.1 d
    value ← in_value (read_named names wanted d)
    Ok (record { column = column.0; mutator = mutator; value = value })

  -- [column, mutator, value]
  abbrev pub read_mutation : List NamedColumn → Data → Read Mutation
  read_mutation columns d = do
    parts ← ok_or (three_items d) BadOperation
    p ← both rank (read_column columns parts.0) (read_mutator (as_str parts.1))
    read_mutation_of p.0 p.1 parts.2

  -- "mutations"
  abbrev pub read_mutations : List NamedColumn → Option Data → Read (List Mutation)
  read_mutations columns None = Err BadOperation
  read_mutations columns (Some d) = ok_or (as_array d) BadOperation >>= read_items (read_mutation columns) (Ok [])

  -- a column that is set, under its name
  abbrev pub read_cell : List NamedColumn → List ℕ → Data → Read Mutation
  read_cell columns name d = ok_or (column_named columns name) UnknownColumn >>= λ column. read_mutation_of column Set d

  -- "row"
  abbrev pub read_row : List NamedColumn → Option Data → Read (List Mutation)
  read_row columns None = Err BadOperation
  read_row columns (Some d) = ok_or (as_object d) BadOperation >>= read_members (read_cell columns) (Ok [])

  -- "where"
  abbrev pub read_conditions : List NamedColumn → Option Data → Read (List Condition)
  read_conditions columns d = in_query (read_where (named names) columns d)

  -- "uuid-name": a name that no earlier row has, so that it stands for this one
  abbrev pub read_own_name : ℕ → Option Data → Read (Unit {0})
  read_own_name id None = Ok tt
  read_own_name id (Some d) = do
    name ← ok_or (as_str d) BadOperation
    if is_id name then (if option_eq nat_eq (map.get names name) (Some id) then Ok tt else Err DuplicateName) else Err BadOperation

  -- conditions on the rows of a table, and what becomes of those that match
  abbrev pub altered_by : ℕ × Table → Read Alteration → Data → Read Operation
  altered_by table alteration d =
      result_map (λ p. does.Alter table.0 p.0 p.1) (both rank (read_conditions table.1.columns (get (codes "where") d)) alteration)

  abbrev pub read_updated : List NamedColumn → Data → Read Alteration
  read_updated columns d = result_map alters.Write (read_row columns (get (codes "row") d))

  abbrev pub read_mutated : List NamedColumn → Data → Read Alteration
  read_mutated columns d = result_map alters.Write (read_mutations columns (get (codes "mutations") d))

  -- ---- operations on the rows of a table

  module _ (tables : List Table) where
    abbrev pub read_inserted : ℕ → Data → Read Operation
    read_inserted id d = do
      table ← read_table tables d
      mutations ← read_row table.1.columns (get (codes "row") d)
      Ok (does.Insert (record { table = table.0; id = id }) mutations)

    -- the name needs no table
    abbrev pub read_insert : ℕ → Data → Read Operation
    read_insert id d = result_map (λ p. p.0) (both rank (read_inserted id d) (read_own_name id (get (codes "uuid-name") d)))

    abbrev pub read_alteration : (List NamedColumn → Data → Read Alteration) → Data → Read Operation
    read_alteration read d = read_table tables d >>= λ table. altered_by table (read table.1.columns d) d

-- the rows that match go
abbrev pub read_deleted : List NamedColumn → Data → Read Alteration
read_deleted columns d = Ok alters.Delete

-- what becomes of the rows that match
abbrev pub read_altered : NamedIds → Altering → List NamedColumn → Data → Read Alteration
read_altered names ways.Update columns d = read_updated names columns d
read_altered names ways.Mutate columns d = read_mutated names columns d
read_altered names ways.Delete columns d = read_deleted columns d

-- ---- operations on no rows

-- "comment" has a text
abbrev pub read_comment : Data → Read Operation
read_comment d = do
  text ← ok_or (option_and_then as_str (get (codes "comment") d)) BadOperation
  Ok does.Nothing

-- a commit is never durable
abbrev pub read_commit : Data → Read Operation
read_commit d = do
  durable ← ok_or (option_and_then as_bool (get (codes "durable") d)) BadOperation
  if durable then Err NotSupported else Ok does.Nothing

-- "lock" has a text, which is a lock that the session owns
abbrev pub read_assert : (List ℕ → Bool) → Data → Read Operation
read_assert owns d = do
  name ← ok_or (option_and_then as_str (get (codes "lock") d)) BadOperation
  if owns name then Ok does.Nothing else Err NotOwner

-- ---- all of them

-- the names, the tables, which locks the session owns, the id of the row that the operation inserts, if it does so
abbrev pub read_named_operation : NamedIds → List Table → (List ℕ → Bool) → Option ℕ → List ℕ → Data → Read Operation
read_named_operation names tables owns id op d =
    if is op (codes "insert") then (ok_or id BadOperation >>= λ own. read_insert names tables own d)
    else if is op (codes "update") then read_alteration names tables (read_updated names) d
    else if is op (codes "mutate") then read_alteration names tables (read_mutated names) d
    else if is op (codes "delete") then read_alteration names tables read_deleted d
    else if is op (codes "select") then result_map does.Select (in_query (read_select (named names) tables d))
    else if is op (codes "comment") then read_comment d
    else if is op (codes "commit") then read_commit d
    else if is op (codes "abort") then Err Aborted
    else if is op (codes "wait") then Err NotSupported
    else if is op (codes "assert") then read_assert owns d
    else Err BadOperation

abbrev pub read_operation : NamedIds → List Table → (List ℕ → Bool) → Option ℕ → Data → Read Operation
read_operation names tables owns id d =
    ok_or (option_and_then as_str (get (codes "op") d)) BadOperation >>= λ op. read_named_operation names tables owns id op d
