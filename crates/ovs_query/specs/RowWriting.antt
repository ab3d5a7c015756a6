-- Rows and the answers of selects as JSON values (RFC 7047 section 5.2.2).
use Rattle.std.specs.Prelude.{ℕ, List, Option, Some, None, map, filter, codes, option_and_then, if◌then◌else◌}
use Rattle.serde_json.specs.Data.{Data, array}
use Rattle.serde_json.specs.View.{items_of}
use Rattle.ovs_types.specs.Writing.{datum_json}
use Rattle.ovs_json.specs.Putting.{under_name}
use Rattle.ovs_rows.specs.declared.row_key.RowKey.{RowKey}
use Rattle.ovs_rows.specs.declared.row.Row.{Row}
use Rattle.ovs_rows.specs.Row.{Rows}
use Rattle.ovs_rows.specs.Scanning.{row_in}
use Rattle.ovs_rows.specs.Writing.{object_of, rows_in}
use Rattle.ovs_query.specs.declared.projected.Projected.{Projected}
use Rattle.ovs_query.specs.declared.select.Select.{Select}
use Rattle.ovs_query.specs.Projected.{shown_datum}
use Rattle.ovs_query.specs.Conditions.{all_hold}

-- what is shown of a row, by name
abbrev pub shown_member : ℕ → Row → Projected → List ℕ × Data
shown_member id row s = (s.named.name, datum_json (shown_datum s.field id row))

abbrev pub shown_json : List Projected → ℕ → Row → Data
shown_json shown id row = object_of (map (shown_member id row) shown)

-- the rows of which all conditions hold, in their order
abbrev pub matching : Select → List (RowKey × Row) → List (RowKey × Row)
matching s rows = filter (λ e. all_hold s.conditions e.0.id e.1) rows

abbrev pub rows_json : Select → List (RowKey × Row) → List Data
rows_json s rows = map (λ e. shown_json s.shown e.0.id e.1) (matching s rows)

-- the row of this id, if it is there and matches
abbrev pub row_matching : Select → ℕ → Rows → Option Row
row_matching s id rows = option_and_then (λ row. if all_hold s.conditions id row then Some row else None) (row_in s.table id rows)

-- {"rows": [..]}: the table's rows that match, ascending by id
abbrev pub select_json : Select → Rows → Data
select_json s rows = under_name (codes "rows") (array (items_of (rows_json s (rows_in s.table rows))))
