-- The data that JSON values stand for, with the first fault of those that stand for none.
use Rattle.std.specs.Prelude.{ℕ, List, [], ◌∷◌, Bool, true, Option, Some, None, Result, Ok, Err, option_map, option_and_then, is_some, if◌then◌else◌, codes, length, ◌&&◌}
use Rattle.std.specs.Option.{ok_or}
use Rattle.serde_json.specs.Data.{Num, Data, Items, no_items, item}
use Rattle.serde_json.specs.Find.{as_i64, as_str, as_number, as_bool}
use Rattle.ovs_data.specs.declared.atom.Atom.{Atom}
use Rattle.ovs_data.specs.declared.atom.Atom.TheVariants.{Integer, Boolean, String, Uuid}
use Rattle.ovs_data.specs.declared.atom.AtomKind.{AtomKind}
use Rattle.ovs_data.specs.declared.atom.AtomKind.TheVariants as kinds
use Rattle.ovs_data.specs.declared.column.Column.{Column}
use Rattle.ovs_data.specs.declared.datum.pairs.Pair.{Pair}
use Rattle.ovs_data.specs.declared.datum.Datum.{Datum}
use Rattle.ovs_data.specs.declared.datum.Datum.TheVariants.{Set, Map}
use Rattle.ovs_data.specs.declared.error.DatumError.{DatumError}
use Rattle.ovs_data.specs.declared.error.DatumError.TheVariants.{WrongShape, WrongKind, NotInteger, Duplicate, WrongCount}
use Rattle.ovs_data.specs.Atom.{atom_cmp}
use Rattle.ovs_data.specs.Column.{may_count}
use Rattle.ovs_data.specs.Id.{read_id}
use Rattle.ovs_data.specs.Pairs.{key_cmp}
use Rattle.ovs_json.specs.Results.{◌>>=◌}
use Rattle.ovs_json.specs.Parts.{begins_with, two_items, under, list_under}
use Rattle.ovs_json.specs.Items.{read_items}
use Rattle.ovs_data.specs.Ascending.{distinct}

-- ---- atoms

abbrev pub read_integer : Option Num → Result Atom DatumError
read_integer None = Err WrongKind
read_integer (Some n) = ok_or (option_map Integer (as_i64 n)) NotInteger

-- the id of ["uuid", text]
abbrev pub read_uuid : Data → Option ℕ
read_uuid d = option_and_then read_id (option_and_then as_str (under (codes "uuid") d))

abbrev pub read_atom : AtomKind → Data → Result Atom DatumError
read_atom kinds.Integer d = read_integer (as_number d)
read_atom kinds.Boolean d = ok_or (option_map Boolean (as_bool d)) WrongKind
read_atom kinds.String d = ok_or (option_map String (as_str d)) WrongKind
read_atom kinds.Uuid d = ok_or (option_map Uuid (read_uuid d)) WrongKind

-- ---- shapes

abbrev pub counted : Column → ℕ → Datum → Result Datum DatumError
counted c n x = if may_count c n then Ok x else Err WrongCount

-- whether each item is a list of two
abbrev pub are_pairs : Items → Bool
are_pairs no_items = true
are_pairs (item d ds) = is_some (two_items d) && are_pairs ds

-- the list of pairs under "map"
abbrev pub map_items : Option Items → Option Items
map_items None = None
map_items (Some ds) = if are_pairs ds then Some ds else None

-- ---- sets and maps, with a way of reading their atoms

module _ (atom : AtomKind → Data → Result Atom DatumError) where
  abbrev pub read_one : AtomKind → Data → Result (List Atom) DatumError
  read_one kind d = do
    x ← atom kind d
    Ok (x ∷ [])

  -- the elements of ["set", [..]], or the one atom
  abbrev pub read_elements : AtomKind → Data → Result (List Atom) DatumError
  read_elements kind d =
      if begins_with (codes "set") d then (ok_or (list_under (codes "set") d) WrongShape >>= read_items (atom kind))
      else if begins_with (codes "map") d then Err WrongShape
      else read_one kind d

  abbrev pub read_pair : AtomKind → AtomKind → Data → Result Pair DatumError
  read_pair key value d = do
    both ← ok_or (two_items d) WrongShape
    k ← atom key both.0
    v ← atom value both.1
    Ok (record { key = k; value = v })

  -- the list of pairs of ["map", [[key, value]..]]
  abbrev pub read_pairs : AtomKind → AtomKind → Data → Result (List Pair) DatumError
  read_pairs key value d = ok_or (map_items (list_under (codes "map") d)) WrongShape >>= read_items (read_pair key value)

  abbrev pub read_set : Column → Data → Result Datum DatumError
  read_set c d = do
    xs ← read_elements c.key d
    ys ← ok_or (distinct atom_cmp xs) Duplicate
    counted c (length ys) (Set ys)

  abbrev pub read_map : Column → AtomKind → Data → Result Datum DatumError
  read_map c value d = do
    ps ← read_pairs c.key value d
    qs ← ok_or (distinct key_cmp ps) Duplicate
    counted c (length qs) (Map qs)

  abbrev pub read_shaped : Column → Option AtomKind → Data → Result Datum DatumError
  read_shaped c None d = read_set c d
  read_shaped c (Some value) d = read_map c value d

  -- the datum of a column; shape, then elements from left to right, then repeats, then their number
  abbrev pub read_column : Column → Data → Result Datum DatumError
  read_column c d = read_shaped c c.value d

-- ---- data as they are written

abbrev pub read_datum : Column → Data → Result Datum DatumError
read_datum = read_column read_atom
