-- Data as JSON values (RFC 7047 section 5.1).
use Rattle.std.specs.Prelude.{List, [], ◌∷◌, codes, map}
use Rattle.serde_json.specs.Data.{Data, boolean, number, string, Items, no_items}
use Rattle.serde_json.specs.Find.{of_integer}
use Rattle.serde_json.specs.View.{items_of}
use Rattle.ovs_data.specs.declared.atom.Atom.{Atom}
use Rattle.ovs_data.specs.declared.atom.Atom.TheVariants.{Integer, Boolean, String, Uuid}
use Rattle.ovs_data.specs.declared.datum.pairs.Pair.{Pair}
use Rattle.ovs_data.specs.declared.datum.Datum.{Datum}
use Rattle.ovs_data.specs.declared.datum.Datum.TheVariants.{Set, Map}
use Rattle.ovs_json.specs.Putting.{two, listed}
use Rattle.ovs_data.specs.Id.{id_text}

abbrev pub atom_json : Atom → Data
atom_json (Integer z) = number (of_integer z)
atom_json (Boolean b) = boolean b
atom_json (String s) = string s
atom_json (Uuid id) = two (string (codes "uuid")) (string (id_text id))

abbrev pub pair_json : Pair → Data
pair_json p = two (atom_json p.key) (atom_json p.value)

abbrev pub atoms_json : List Atom → Items
atoms_json xs = items_of (map atom_json xs)

abbrev pub pairs_json : List Pair → Items
pairs_json ps = items_of (map pair_json ps)

-- one element as itself, every other set under "set", a map under "map"
abbrev pub datum_json : Datum → Data
datum_json (Set []) = listed (codes "set") no_items
datum_json (Set (x ∷ [])) = atom_json x
datum_json (Set (x ∷ y ∷ ys)) = listed (codes "set") (atoms_json (x ∷ y ∷ ys))
datum_json (Map ps) = listed (codes "map") (pairs_json ps)
