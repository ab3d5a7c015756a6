-- Updates as JSON values (ovsdb-server(7), `update2`; RFC 7047 section 4.1.6).
use Rattle.std.specs.Prelude.{ℕ, List, [], ◌∷◌, Option, Some, None, ◌==◌, map, filter, option_map, codes}
use Rattle.std.specs.List.{zip, enumerate_from, filter_map}
use Rattle.std.specs.Option.{option_and_then}
use Rattle.std.specs.FinMap.{FinMap, entries}
use Rattle.serde_json.specs.Data.{Data}
use Rattle.ovs_data.specs.declared.datum.Datum.{Datum}
use Rattle.ovs_types.specs.declared.schema.NamedColumn.{NamedColumn}
use Rattle.ovs_types.specs.Id.{id_text}
use Rattle.ovs_json.specs.Putting.{under_name}
use Rattle.ovs_rows.specs.declared.row_key.RowKey.{RowKey}
use Rattle.ovs_rows.specs.declared.change.Action.{Action}
use Rattle.ovs_rows.specs.declared.change.Action.TheVariants.{Insert, Delete, Modify}
use Rattle.ovs_rows.specs.RowKey.{place_cmp}
use Rattle.ovs_rows.specs.Row.{Rows}
use Rattle.ovs_rows.specs.Change.{Actions}
use Rattle.ovs_rows.specs.ChangeWriting.{insert_json, modify_json, action_json}
use Rattle.ovs_rows.specs.Writing.{object_of, column_member}
use Rattle.ovs_query.specs.declared.monitor.Notation.{Notation}
use Rattle.ovs_query.specs.declared.monitor.Notation.TheVariants.{Update, Update2, Update3}
use Rattle.ovs_query.specs.declared.monitor.Watched.{Watched}
use Rattle.ovs_query.specs.Projected.{shown_columns}
use Rattle.ovs_query.specs.RowUpdates.{RowUpdate, New, Gone, Changed}
use Rattle.ovs_query.specs.Updates.{first_updates, first_row_updates}

-- ---- one row

-- all columns
abbrev pub whole_json : List NamedColumn → List Datum → Data
whole_json columns shown = object_of (map column_member (zip columns shown))

-- {"new": row}, {"old": row}, {"new": row, "old": the previous data of the columns that changed}
abbrev pub row_update_json : List NamedColumn → RowUpdate → Data
row_update_json columns (New new) = under_name (codes "new") (whole_json columns new)
row_update_json columns (Gone old) = under_name (codes "old") (whole_json columns old)
row_update_json columns (Changed previous new) = object_of ((codes "new", whole_json columns new) ∷ (codes "old", modify_json columns previous) ∷ [])

-- in `update2` and `update3` updates are written as changes are, but a row that is there at first as {"initial": row}
abbrev pub first_json : List NamedColumn → Action → Data
first_json columns (Insert made) = under_name (codes "initial") (insert_json columns made)
first_json columns Delete = action_json columns Delete
first_json columns (Modify edits) = action_json columns (Modify edits)

-- ---- tables

-- the rows by id, if something is written of any
abbrev pub rows_by_id : List (List ℕ × Data) → Option Data
rows_by_id [] = None
rows_by_id (row ∷ rows) = Some (object_of (row ∷ rows))

-- by what is written of the rows of each table that is watched
module _ (rows : ℕ → Watched → List (List ℕ × Data)) where
  -- a table's name and its rows, if something is written of any
  abbrev pub table_member : ℕ × Option Watched → Option (List ℕ × Data)
  table_member t = option_and_then (λ w. option_map (λ d. (w.name, d)) (rows_by_id (rows t.0 w))) t.1

  -- the tables by name
  abbrev pub tables_json : List (Option Watched) → Data
  tables_json watches = object_of (filter_map table_member (enumerate_from 0 watches))

-- by how one row's update is written
module _ {U : Type 0} (update_json : List NamedColumn → U → Data) where
  -- a row's id and its update
  abbrev pub update_member : List NamedColumn → RowKey × U → List ℕ × Data
  update_member columns e = (id_text e.0.id, update_json columns e.1)

  -- those of the table of this number
  abbrev pub update_members : FinMap place_cmp U → ℕ → Watched → List (List ℕ × Data)
  update_members us number w = map (update_member (shown_columns w.shown)) (filter (λ e. e.0.table == number) (entries us))

  -- the tables of whose rows something is told
  abbrev pub updates_json : List (Option Watched) → FinMap place_cmp U → Data
  updates_json watches us = tables_json (update_members us) watches

abbrev pub update2_json : List (Option Watched) → Actions → Data
update2_json = updates_json action_json

abbrev pub update1_json : List (Option Watched) → FinMap place_cmp RowUpdate → Data
update1_json = updates_json row_update_json

-- the rows that are there at first
abbrev pub initial_json : Notation → List (Option Watched) → Rows → Data
initial_json Update watches rows = update1_json watches (first_row_updates watches rows)
initial_json Update2 watches rows = updates_json first_json watches (first_updates watches rows)
initial_json Update3 watches rows = updates_json first_json watches (first_updates watches rows)
