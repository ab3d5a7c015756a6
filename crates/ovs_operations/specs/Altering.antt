-- What an operation makes of the rows that match (RFC 7047 sections 5.2.3 to 5.2.5).
use Rattle.std.specs.Prelude.{ℕ, ◌+◌, List, [], ◌∷◌, Bool, ◌==◌, Option, Some, None, Ok, Err, option_map, if◌then◌else◌}
use Rattle.std.specs.Cmp.Lexicographic.{pointwise}
use Rattle.std.specs.FinMap.{get}
use Rattle.ovs_json.specs.Results.{◌>>=◌, result_map}
use Rattle.ovs_data.specs.declared.datum.Datum.{Datum}
use Rattle.ovs_types.specs.declared.schema.NamedColumn.{NamedColumn}
use Rattle.ovs_types.specs.Equality.{datum_eq}
use Rattle.ovs_rows.specs.declared.row_key.RowKey.{RowKey}
use Rattle.ovs_rows.specs.declared.row.Row.{Row}
use Rattle.ovs_rows.specs.Row.{Rows, columns_at}
use Rattle.ovs_rows.specs.After.{put_at}
use Rattle.ovs_rows.specs.DatabaseDifference.{IsCommit}
use Rattle.ovs_rows.specs.Draft.{DraftValue}
use Rattle.ovs_rows.specs.Scanning.{row_in, rows_past}
use Rattle.ovs_query.specs.declared.conditions.Condition.{Condition}
use Rattle.ovs_query.specs.Conditions.{all_hold}
use Rattle.ovs_operations.specs.declared.operation.Alteration.{Alteration}
use Rattle.ovs_operations.specs.declared.operation.Alteration.TheVariants.{Write, Delete}
use Rattle.ovs_operations.specs.OperationError.{Read}
use Rattle.ovs_operations.specs.Operation.{AreMutationsOf}
use Rattle.ovs_operations.specs.Mutating.{write_all}

-- ---- versions

-- the version that the row had before the transaction, where its columns are those from then, else the commit's id
abbrev pub version_of : ℕ → Option Row → List Datum → ℕ
version_of id None columns = id
version_of id (Some old) columns = if pointwise datum_eq columns old.columns then old.version else id

-- the row of these columns
abbrev pub row_of : ℕ → Option Row → List Datum → Row
row_of id before columns = record { version = version_of id before columns; columns = columns }

-- ---- one row

-- an alteration of rows with these columns
abbrev pub IsAlterationOf : List NamedColumn → Alteration → Type 0
IsAlterationOf columns (Write mutations) = AreMutationsOf columns mutations
IsAlterationOf columns Delete = Unit {0}

-- what becomes of the data of a row: others, or none where the row goes
abbrev pub altered : List NamedColumn → Alteration → List Datum → Read (Option (List Datum))
altered columns (Write mutations) old = result_map Some (write_all columns old mutations)
altered columns Delete old = Ok None

abbrev pub matches : List Condition → RowKey × Row → Bool
matches conditions e = all_hold conditions e.0.id e.1

-- ---- all rows that match

-- the rows, and how many of them have matched
pub record RunResult : Type 0 where
  pub rows : Rows
  pub count : ℕ

-- the commit's id, and the rows before the transaction
module _ (id : ℕ) (before : Rows) where
  -- the row of these columns at a place, or none
  abbrev pub put_altered : RunResult → RowKey → Option (List Datum) → RunResult
  put_altered c p columns = record { rows = put_at c.rows p (option_map (row_of id (get before p)) columns); count = c.count + 1 }

  module _ (columns : List NamedColumn) (matches : RowKey × Row → Bool) (alteration : Alteration) where
    -- a row stays as it is where it doesn't match
    abbrev pub alter_one : RunResult → RowKey × Row → Read RunResult
    alter_one c e = if matches e then result_map (put_altered c e.0) (altered columns alteration e.1.columns) else Ok c

    -- row after row, up to the first fault
    abbrev pub alter_each : RunResult → List (RowKey × Row) → Read RunResult
    alter_each c [] = Ok c
    alter_each c (e ∷ es) = alter_one c e >>= λ d. alter_each d es

    -- the rows of the table of this number, ascending by id
    abbrev pub alter_all : ℕ → Rows → Read RunResult
    alter_all table rows = alter_each (record { rows = rows; count = 0 }) (rows_past table None rows)

    -- what stands at a place
    abbrev pub alter_at : RunResult → RowKey → Option Row → Read RunResult
    alter_at c p None = Ok c
    alter_at c p (Some row) = alter_one c (p, row)

-- ---- the same place by place

-- what becomes of a row that matches
abbrev pub after_result : ℕ → Option Row → Row → Read (Option (List Datum)) → Option Row
after_result id old row (Ok columns) = option_map (row_of id old) columns
after_result id old row (Err fault) = Some row

module _ (id : ℕ) (before : Rows) (columns : List NamedColumn) (matches : RowKey × Row → Bool) (alteration : Alteration) where
  -- what stands at a place of the table after an alteration that met no fault
  abbrev pub altered_at : RowKey → Option Row → Option Row
  altered_at p None = None
  altered_at p (Some row) = if matches (p, row) then after_result id (get before p) row (altered columns alteration row.columns) else Some row

  -- rows of other tables stay
  abbrev pub after_all : ℕ → RowKey → Option Row → Option Row
  after_all table p row = if p.table == table then altered_at p row else row

-- ---- in a draft

-- the columns of a table
abbrev pub columns_in : DraftValue → ℕ → List NamedColumn
columns_in work table = columns_at work.before.schema.description.tables table

-- what a commit's alteration of the rows of a table comes to, of which these conditions hold
abbrev pub rows_altered : ℕ → DraftValue → ℕ → List Condition → Alteration → Read RunResult
rows_altered commit work table conditions alteration =
    alter_all commit work.before.rows (columns_in work table) (matches conditions) alteration table work.rows

-- what it comes to for one row alone, where so many have matched before
abbrev pub row_altered : ℕ → DraftValue → RowKey → List Condition → Alteration → ℕ → Read RunResult
row_altered commit work p conditions alteration count =
    alter_at commit work.before.rows (columns_in work p.table) (matches conditions) alteration
    (record { rows = work.rows; count = count }) p (row_in p.table p.id work.rows)

-- these rows are those before the draft with a commit's changes
abbrev pub AreOfCommit : ℕ → DraftValue → Rows → Type 0
AreOfCommit commit work rows = IsCommit work.before.schema.description.tables work.before.rows rows commit
