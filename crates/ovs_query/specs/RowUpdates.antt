-- Updates in the notation of RFC 7047 section 4.1.6.
use Rattle.std.specs.Prelude.{List, [], ◌∷◌, Option, Some, None, is_some, if◌then◌else◌}
use Rattle.std.specs.List.{list_any}
use Rattle.ovs_data.specs.declared.datum.Datum.{Datum}
use Rattle.ovs_types.specs.Equality.{datum_eq}

-- a row that came, one that went, and one with other data: the previous data of the columns that differ, and the new ones of all
pub data RowUpdate : Type 0 where
  New : (new : List Datum) → RowUpdate
  Gone : (old : List Datum) → RowUpdate
  Changed : (previous : List (Option Datum)) (new : List Datum) → RowUpdate

-- the first datum, where the second is another
abbrev pub previous_datum : Datum → Datum → Option Datum
previous_datum old new = if datum_eq old new then None else Some old

-- the same of each column
abbrev pub previous : List Datum → List Datum → List (Option Datum)
previous [] ys = []
previous (x ∷ xs) [] = []
previous (x ∷ xs) (y ∷ ys) = previous_datum x y ∷ previous xs ys

abbrev pub row_update_between : Option (List Datum) → Option (List Datum) → Option RowUpdate
row_update_between None None = None
row_update_between None (Some new) = Some (New new)
row_update_between (Some old) None = Some (Gone old)
row_update_between (Some old) (Some new) = if list_any is_some (previous old new) then Some (Changed (previous old new) new) else None
