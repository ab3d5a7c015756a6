-- A copy of what a monitor shows, kept by updates (ovsdb-server(7), `update2`; RFC 7047 section 4.1.6).
use Rattle.std.specs.Prelude.{List, Bool, Option, Some, None, is_some, ◌++◌, if◌then◌else◌}
use Rattle.std.specs.List.{list_all}
use Rattle.std.specs.Option.{option_and_then}
use Rattle.std.specs.FinMap.{FinMap, get, keys}
use Rattle.ovs_data.specs.declared.datum.Datum.{Datum}
use Rattle.ovs_types.specs.declared.schema.NamedColumn.{NamedColumn}
use Rattle.ovs_rows.specs.declared.change.Action.{Action}
use Rattle.ovs_rows.specs.declared.change.Action.TheVariants.{Insert, Delete, Modify}
use Rattle.ovs_rows.specs.declared.row_key.RowKey.{RowKey}
use Rattle.ovs_rows.specs.RowKey.{place_cmp}
use Rattle.ovs_rows.specs.Change.{Actions}
use Rattle.ovs_rows.specs.Combined.{combined}
use Rattle.ovs_rows.specs.After.{edited}
use Rattle.ovs_query.specs.declared.monitor.Watched.{Watched}
use Rattle.ovs_query.specs.View.{View, columns_watched}
use Rattle.ovs_query.specs.RowUpdates.{RowUpdate, New, Gone, Changed}

-- ---- carrying updates out: f says what a held row, or none, becomes by an update, or by none, if the update can name it
module _ {U : Type 0} (f : RowKey → Option (List Datum) → Option U → Option (Option (List Datum))) where
  -- the update of a place can be carried out
  abbrev pub is_carried : View → FinMap place_cmp U → RowKey → Bool
  is_carried v us p = is_some (f p (get v p) (get us p))

  -- what is held after them
  abbrev pub carried : View → FinMap place_cmp U → View
  carried v us = combined (λ p held update. option_and_then (λ o. o) (f p held update)) v us

  -- the copy after all updates, where each can be carried out
  unfoldable pub carry : View → FinMap place_cmp U → Option View
  carry v us = if list_all (is_carried v us) (keys v ++ keys us) then Some (carried v us) else None

-- ---- `update2` and `update3`

-- an "insert" names a row that isn't held, and every other update one that is
abbrev pub mirror_row : List NamedColumn → Option (List Datum) → Option Action → Option (Option (List Datum))
mirror_row columns held None = Some held
mirror_row columns None (Some (Insert made)) = Some (Some made)
mirror_row columns None (Some Delete) = None
mirror_row columns None (Some (Modify edits)) = None
mirror_row columns (Some old) (Some (Insert made)) = None
mirror_row columns (Some old) (Some Delete) = Some None
mirror_row columns (Some old) (Some (Modify edits)) = Some (Some (edited columns edits old))

abbrev pub mirror_at : List (Option Watched) → RowKey → Option (List Datum) → Option Action → Option (Option (List Datum))
mirror_at watches p = mirror_row (columns_watched watches p.table)

abbrev pub mirror : List (Option Watched) → View → Actions → Option View
mirror watches = carry (mirror_at watches)

-- ---- `update`

-- "new" alone names a row that isn't held, and every other update one that is
abbrev pub replace_row : Option (List Datum) → Option RowUpdate → Option (Option (List Datum))
replace_row held None = Some held
replace_row None (Some (New new)) = Some (Some new)
replace_row None (Some (Gone old)) = None
replace_row None (Some (Changed previous new)) = None
replace_row (Some held) (Some (New new)) = None
replace_row (Some held) (Some (Gone old)) = Some None
replace_row (Some held) (Some (Changed previous new)) = Some (Some new)

abbrev pub replace : View → FinMap place_cmp RowUpdate → Option View
replace = carry (λ p. replace_row)
