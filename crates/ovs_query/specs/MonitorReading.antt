-- The monitors that JSON values stand for, with the first fault of those that stand for none (ovsdb-server(7)).
use Rattle.std.specs.Prelude.{ℕ, List, [], Bool, true, Option, Some, None, Ok, Err, codes, map, slice_get, slice_set}
use Rattle.std.specs.Option.{ok_or}
use Rattle.serde_json.specs.Data.{Data, Items, no_items, item, Members, no_members, member}
use Rattle.serde_json.specs.Find.{get, as_array, as_bool, as_object}
use Rattle.ovs_json.specs.FirstFault.{both}
use Rattle.ovs_json.specs.Results.{◌>>=◌, result_map}
use Rattle.ovs_types.specs.declared.schema.NamedColumn.{NamedColumn}
use Rattle.ovs_types.specs.declared.schema.Table.{Table}
use Rattle.ovs_types.specs.Finding.{table_named}
use Rattle.ovs_query.specs.declared.clauses.Clause.{Clause}
use Rattle.ovs_query.specs.declared.clauses.Clause.TheVariants.{Always, Where}
use Rattle.ovs_query.specs.declared.error.QueryError.TheVariants.{UnknownTable, BadCondition, ManyRequests, BadSelect}
use Rattle.ovs_query.specs.declared.monitor.Kinds.{Kinds}
use Rattle.ovs_query.specs.declared.monitor.Monitor.{Monitor}
use Rattle.ovs_query.specs.declared.monitor.Notation.{Notation}
use Rattle.ovs_query.specs.declared.monitor.Notation.TheVariants.{Update, Update2, Update3}
use Rattle.ovs_query.specs.declared.monitor.Watched.{Watched}
use Rattle.ovs_query.specs.declared.projected.Projected.{Projected}
use Rattle.ovs_query.specs.Faults.{Read, rank}
use Rattle.ovs_query.specs.ConditionReading.{read_items, plain, read_condition, all_but_id, read_columns}

-- ---- kinds of updates

-- whether a kind is asked for: so it is unless the opposite is said
abbrev pub read_kind : Option Data → Read Bool
read_kind None = Ok true
read_kind (Some d) = ok_or (as_bool d) BadSelect

-- the kinds that an object names
abbrev pub read_each_kind : Data → Read Kinds
read_each_kind d = do
  initial' ← read_kind (get (codes "initial") d)
  insert' ← read_kind (get (codes "insert") d)
  delete' ← read_kind (get (codes "delete") d)
  modify' ← read_kind (get (codes "modify") d)
  Ok (record { initial = initial'; insert = insert'; delete = delete'; modify = modify' })

abbrev pub all_kinds : Kinds
all_kinds = record { initial = true; insert = true; delete = true; modify = true }

-- "select", by default all kinds
abbrev pub read_kinds : Option Data → Read Kinds
read_kinds None = Ok all_kinds
read_kinds (Some d) = do
  members ← ok_or (as_object d) BadSelect
  read_each_kind d

-- ---- clauses

-- a constant, or else a condition
abbrev pub read_clause_or : List NamedColumn → Data → Option Bool → Read Clause
read_clause_or columns d (Some truth) = Ok (Always truth)
read_clause_or columns d None = result_map Where (read_condition plain columns d)

abbrev pub read_clause : List NamedColumn → Data → Read Clause
read_clause columns d = read_clause_or columns d (as_bool d)

abbrev pub read_each_clause : List NamedColumn → Items → Read (List Clause)
read_each_clause columns = read_items (read_clause columns) (Ok [])

-- "where", by default no clauses
abbrev pub read_clauses : List NamedColumn → Option Data → Read (List Clause)
read_clauses columns None = Ok []
read_clauses columns (Some d) = ok_or (as_array d) BadCondition >>= read_each_clause columns

-- the "where" of a request, which isn't looked at in the notation of whole rows
abbrev pub where_in : Notation → Data → Option Data
where_in Update d = None
where_in Update2 d = get (codes "where") d
where_in Update3 d = get (codes "where") d

-- ---- requests

-- all parts of a request are looked at
abbrev pub read_parts : Notation → List NamedColumn → Data → Read ((List Projected × List Clause) × Kinds)
read_parts notation columns d =
    both rank (both rank (read_columns BadSelect (all_but_id columns) columns (get (codes "columns") d)) (read_clauses columns (where_in notation d)))
    (read_kinds (get (codes "select") d))

-- what is asked of a table
abbrev pub read_request : Notation → Table → Data → Read Watched
read_request notation table d = do
  members ← ok_or (as_object d) BadSelect
  result_map (λ p. record { name = table.name; shown = p.0.0; clauses = p.0.1; kinds = p.1 }) (read_parts notation table.columns d)

-- the requests of an array, all of which are looked at
abbrev pub read_each_request : Notation → Table → Items → Read (List Watched)
read_each_request notation table = read_items (read_request notation table) (Ok [])

-- an array has one request at most
abbrev pub at_most_one : Items → Read (Unit {0})
at_most_one no_items = Ok tt
at_most_one (item d no_items) = Ok tt
at_most_one (item d (item e ds)) = Err ManyRequests

-- the request of an array, if it has one, or the first of the faults of all its requests and its own
abbrev pub read_array : Notation → Table → Items → Read (Option Watched)
read_array notation table ds = result_map (λ p. slice_get p.0 0) (both rank (read_each_request notation table ds) (at_most_one ds))

-- a request stands alone, or in an array
abbrev pub read_requests_or : Notation → Table → Data → Option Items → Read (Option Watched)
read_requests_or notation table d None = result_map Some (read_request notation table d)
read_requests_or notation table d (Some ds) = read_array notation table ds

abbrev pub read_requests : Notation → Table → Data → Read (Option Watched)
read_requests notation table d = read_requests_or notation table d (as_array d)

-- ---- tables

-- a table's number, and what is watched of it
abbrev pub read_table : Notation → List Table → List ℕ → Data → Read (ℕ × Option Watched)
read_table notation tables name d = do
  table ← ok_or (table_named tables name) UnknownTable
  result_map (λ w. (table.0, w)) (read_requests notation table.1 d)

-- what is watched, with one table more, or the first of all faults
abbrev pub with_table : Read (List (Option Watched)) → Read (ℕ × Option Watched) → Read (List (Option Watched))
with_table so_far one = result_map (λ p. slice_set p.0 p.1.0 p.1.1) (both rank so_far one)

abbrev pub read_tables : Notation → List Table → Read (List (Option Watched)) → Members → Read (List (Option Watched))
read_tables notation tables so_far no_members = so_far
read_tables notation tables so_far (member name d ms) = read_tables notation tables (with_table so_far (read_table notation tables name d)) ms

abbrev pub nothing_watched : List Table → List (Option Watched)
nothing_watched tables = map (λ t. None) tables

abbrev pub read_all_tables : Notation → List Table → Members → Read (List (Option Watched))
read_all_tables notation tables = read_tables notation tables (Ok (nothing_watched tables))

-- for each table of the schema what is watched of it
abbrev pub read_watches : Notation → List Table → Data → Read (List (Option Watched))
read_watches notation tables d = ok_or (as_object d) BadSelect >>= read_all_tables notation tables

abbrev pub read_monitor : Notation → List Table → Data → Read Monitor
read_monitor notation tables d = result_map (λ w. record { notation = notation; watches = w }) (read_watches notation tables d)
