-- What a row shows under a name: its id, its version, or a column (RFC 7047 section 3.2).
use Rattle.std.specs.Prelude.{ℕ, List, [], ◌∷◌, false, Option, Some, None, map, slice_get}
use Rattle.std.specs.Option.{unwrap_or}
use Rattle.ovs_data.specs.declared.atom.Atom.TheVariants.{Uuid}
use Rattle.ovs_data.specs.declared.atom.AtomKind.TheVariants as kinds
use Rattle.ovs_data.specs.declared.column.Column.{Column}
use Rattle.ovs_data.specs.declared.datum.Datum.{Datum}
use Rattle.ovs_data.specs.declared.datum.Datum.TheVariants.{Set}
use Rattle.ovs_types.specs.declared.schema.NamedColumn.{NamedColumn}
use Rattle.ovs_rows.specs.declared.row.Row.{Row}
use Rattle.ovs_query.specs.declared.projected.Field.{Field}
use Rattle.ovs_query.specs.declared.projected.Field.TheVariants.{Id, Version, Column as Numbered}
use Rattle.ovs_query.specs.declared.projected.Projected.{Projected}
use Rattle.ovs_query.specs.declared.projected.Held.{Held}
use Rattle.ovs_query.specs.declared.projected.Held.TheVariants.{Lent, Made}

-- the column of an id, as `_uuid` and `_version` are
abbrev pub id_column : Column
id_column = record { key = kinds.Uuid; value = None; may_be_empty = false; most = Some 1 }

abbrev pub id_datum : ℕ → Datum
id_datum id = Set (Uuid id ∷ [])

-- the row's id, its version, or the datum of the column of this number, if the row has one
abbrev pub datum_at : Field → ℕ → Row → Option Datum
datum_at Id id row = Some (id_datum id)
datum_at Version id row = Some (id_datum row.version)
datum_at (Numbered number) id row = slice_get row.columns number

-- the same, and an empty set past the row's last column
abbrev pub shown_datum : Field → ℕ → Row → Datum
shown_datum field id row = unwrap_or (datum_at field id row) (Set [])

-- the data of a row, one for each that is shown
abbrev pub shown_data : List Projected → ℕ → Row → List Datum
shown_data shown id row = map (λ s. shown_datum s.field id row) shown

-- their names and columns
abbrev pub shown_columns : List Projected → List NamedColumn
shown_columns = map (λ s. s.named)

-- ---- what a call lends or makes

abbrev pub held_datum : Held → Datum
held_datum (Lent d) = d.now
held_datum (Made d) = d
