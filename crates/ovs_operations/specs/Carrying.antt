-- What an operation leaves, and what it is answered (RFC 7047 section 5.2).
use Rattle.std.specs.Prelude.{ℕ, List, Some, Ok, codes}
use Rattle.std.specs.FinMap.{get}
use Rattle.serde_json.specs.Data.{Data, number, unsigned, object, no_members}
use Rattle.ovs_json.specs.Putting.{under_name}
use Rattle.ovs_json.specs.Results.{result_map}
use Rattle.ovs_data.specs.declared.atom.Atom.TheVariants.{Uuid}
use Rattle.ovs_data.specs.declared.datum.Datum.{Datum}
use Rattle.ovs_types.specs.declared.schema.Table.{Table}
use Rattle.ovs_types.specs.Writing.{atom_json}
use Rattle.ovs_rows.specs.declared.row_key.RowKey.{RowKey}
use Rattle.ovs_rows.specs.Row.{Rows, columns_at}
use Rattle.ovs_rows.specs.After.{put_at}
use Rattle.ovs_query.specs.RowWriting.{select_json}
use Rattle.ovs_operations.specs.declared.operation.Mutation.{Mutation}
use Rattle.ovs_operations.specs.declared.operation.Operation.{Operation}
use Rattle.ovs_operations.specs.declared.operation.Operation.TheVariants as does
use Rattle.ovs_operations.specs.OperationError.{Read}
use Rattle.ovs_operations.specs.Mutating.{write_all, default_row}
use Rattle.ovs_operations.specs.Altering.{RunResult, row_of, matches, alter_all}

-- the rows after an operation, and its answer
pub record Done : Type 0 where
  pub rows : Rows
  pub answer : Data

-- {"uuid": ["uuid", ..]}
abbrev pub inserted_json : ℕ → Data
inserted_json id = under_name (codes "uuid") (atom_json (Uuid id))

-- {"count": ..}
abbrev pub count_json : ℕ → Data
count_json n = under_name (codes "count") (number (unsigned n))

-- ---- a row that is inserted

-- the defaults of its columns, and what the mutations make of them
abbrev pub inserted_row : List Table → RowKey → List Mutation → Read (List Datum)
inserted_row tables p mutations = write_all (columns_at tables p.table) (default_row (columns_at tables p.table)) mutations

-- the commit's id, and the rows before the transaction
abbrev pub put_inserted : ℕ → Rows → RowKey → Rows → List Datum → Done
put_inserted id before p rows columns = record { rows = put_at rows p (Some (row_of id (get before p) columns)); answer = inserted_json p.id }

-- ---- rows that match

abbrev pub counted_rows : RunResult → Done
counted_rows c = record { rows = c.rows; answer = count_json c.count }

-- ---- an operation, on the rows that those before it left

abbrev pub carried_out : List Table → ℕ → Rows → Operation → Rows → Read Done
carried_out tables id before (does.Insert p mutations) rows = result_map (put_inserted id before p rows) (inserted_row tables p mutations)
carried_out tables id before (does.Alter table conditions alteration) rows =
    result_map counted_rows (alter_all id before (columns_at tables table) (matches conditions) alteration table rows)
carried_out tables id before (does.Select s) rows = Ok (record { rows = rows; answer = select_json s rows })
carried_out tables id before does.Nothing rows = Ok (record { rows = rows; answer = object no_members })
