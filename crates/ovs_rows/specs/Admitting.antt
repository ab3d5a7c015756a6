-- Which rows may stand in the tables of a database, as tests; and what a change did, put in a database without the rows that
-- may not stand there.
use Rattle.std.specs.Prelude.{List, [], ◌∷◌, Bool, true, false, ◌&&◌, Option, Some, None, slice_get, filter}
use Rattle.ovs_data.specs.declared.datum.Datum.{Datum}
use Rattle.ovs_types.specs.Admitting.{admits}
use Rattle.ovs_types.specs.declared.schema.NamedColumn.{NamedColumn}
use Rattle.ovs_types.specs.declared.schema.Table.{Table}
use Rattle.ovs_rows.specs.declared.row_key.RowKey.{RowKey}
use Rattle.ovs_rows.specs.declared.row.Row.{Row}
use Rattle.ovs_rows.specs.Row.{Rows}
use Rattle.ovs_rows.specs.After.{TouchedRow, applied_to}

-- ---- a row of a table

-- there is one datum of each column
abbrev pub admit_all : List NamedColumn → List Datum → Bool
admit_all [] [] = true
admit_all (c ∷ cs) (x ∷ xs) = admits c.column x && admit_all cs xs
admit_all cs xs = false

abbrev pub table_admits : Option Table → Option Row → Bool
table_admits table None = true
table_admits None (Some row) = false
table_admits (Some table) (Some row) = admit_all table.columns row.columns

-- whether a row, or none, may stand at the place
abbrev pub admitted_at : List Table → RowKey → Option Row → Bool
admitted_at tables p row = table_admits (slice_get tables p.table) row

-- ---- rows that a change told

-- those that may stand where they are put
abbrev pub admitted : List Table → List TouchedRow → List TouchedRow
admitted tables = filter (λ t. admitted_at tables t.place t.after)

-- the rows with those put in their places
abbrev pub absorbed : List Table → Rows → List TouchedRow → Rows
absorbed tables rows us = applied_to rows (admitted tables us)
