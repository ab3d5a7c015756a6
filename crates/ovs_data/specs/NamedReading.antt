-- Data in which names may stand for ids (RFC 7047 section 5.1).
use Rattle.std.specs.Prelude.{◌≡◌, ◌⊎◌, ℕ, List, true, Option, Some, None, Result, Ok, Err, option_map, option_and_then, if◌then◌else◌, codes}
use Rattle.std.specs.FinMap.{FinMap, get}
use Rattle.std.specs.Option.{ok_or}
use Rattle.std.specs.Ordering.{nat_cmp}
use Rattle.std.specs.Cmp.Lexicographic.{slice_cmp}
use Rattle.serde_json.specs.Data.{Data, string}
use Rattle.serde_json.specs.Find.{as_str}
use Rattle.ovs_data.specs.declared.atom.Atom.{Atom}
use Rattle.ovs_data.specs.declared.atom.Atom.TheVariants.{Uuid}
use Rattle.ovs_data.specs.declared.atom.AtomKind.{AtomKind}
use Rattle.ovs_data.specs.declared.atom.AtomKind.TheVariants as kinds
use Rattle.ovs_data.specs.declared.column.Column.{Column}
use Rattle.ovs_data.specs.declared.datum.Datum.{Datum}
use Rattle.ovs_data.specs.declared.error.DatumError.{DatumError}
use Rattle.ovs_data.specs.declared.error.DatumError.TheVariants.{WrongKind, UnknownName}
use Rattle.ovs_json.specs.Parts.{under}
use Rattle.ovs_json.specs.Putting.{two}
use Rattle.ovs_data.specs.Names.{is_id}
use Rattle.ovs_data.specs.Reading.{read_atom, read_uuid, read_column}
use Rattle.ovs_data.specs.Spelling.{SpellsAtom, SpellsDatum}

-- ids by their names
abbrev pub NamedIds : Type 0
NamedIds = FinMap (slice_cmp nat_cmp) ℕ

module _ (names : NamedIds) where
  -- the id of ["named-uuid", name]; what is no <id> is no name
  abbrev pub read_name : Option (List ℕ) → Result Atom DatumError
  read_name None = Err WrongKind
  read_name (Some name) = if is_id name then ok_or (option_map Uuid (get names name)) UnknownName else Err WrongKind

  -- this id, or else that of a name
  abbrev pub id_or_named : Option ℕ → Data → Result Atom DatumError
  id_or_named (Some id) d = Ok (Uuid id)
  id_or_named None d = read_name (option_and_then as_str (under (codes "named-uuid") d))

  -- an atom as it is written, or a name where an id is wanted
  abbrev pub read_named_atom : AtomKind → Data → Result Atom DatumError
  read_named_atom kinds.Integer d = read_atom kinds.Integer d
  read_named_atom kinds.Boolean d = read_atom kinds.Boolean d
  read_named_atom kinds.String d = read_atom kinds.String d
  read_named_atom kinds.Uuid d = id_or_named (read_uuid d) d

  abbrev pub read_named : Column → Data → Result Datum DatumError
  read_named = read_column read_named_atom

  -- ["named-uuid", name] for an id that has this name
  abbrev pub SpellsName : AtomKind → Data → Atom → Type 0
  SpellsName kind d x =
      (name : List ℕ) × (id : ℕ) × (kind ≡ kinds.Uuid) × (x ≡ Uuid id) × (d ≡ two (string (codes "named-uuid")) (string name)) × (is_id name ≡ true)
      × (get names name ≡ Some id)

  -- an atom as it is written, or the name of an id
  abbrev pub SpellsNamedAtom : AtomKind → Data → Atom → Type 0
  SpellsNamedAtom kind d x = SpellsAtom kind d x ⊎ SpellsName kind d x

  -- the JSON value stands for the datum, where names may stand for ids
  abbrev pub SpellsNamed : Column → Data → Datum → Type 0
  SpellsNamed = SpellsDatum SpellsNamedAtom
