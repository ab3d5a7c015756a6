-- The JSON values that stand for a schema.
use Rattle.std.specs.Prelude.{◌≡◌, ℕ, ◌≤◌, List, Bool, true, false, Option, Some, None, codes, if◌then◌else◌, ◌⊎◌}
use Rattle.serde_json.specs.Data.{Data, number, unsigned, string, object, Members}
use Rattle.serde_json.specs.Find.{get}
use Rattle.ovs_data.specs.declared.atom.AtomKind.{AtomKind}
use Rattle.ovs_data.specs.declared.atom.AtomKind.TheVariants.{Integer, Boolean, String, Uuid}
use Rattle.ovs_data.specs.declared.column.Column.{Column}
use Rattle.ovs_types.specs.declared.schema.NamedColumn.{NamedColumn}
use Rattle.ovs_types.specs.declared.schema.Table.{Table}
use Rattle.ovs_types.specs.declared.schema.Description.{Description}
use Rattle.ovs_json.specs.Members.{EachSpells}
use Rattle.ovs_types.specs.Names.{is_id, is_name}

-- an <atomic-type>
abbrev pub name_of : AtomKind → List ℕ
name_of Integer = codes "integer"
name_of Boolean = codes "boolean"
name_of String = codes "string"
name_of Uuid = codes "uuid"

-- a <base-type>: an <atomic-type>, or an object whose "type" is one
abbrev pub IsBase : Data → AtomKind → Type 0
IsBase d k = (d ≡ string (name_of k)) ⊎ (get (codes "type") d ≡ Some (string (name_of k)))

-- "value", which only a map has
abbrev pub IsValue : Option Data → Option AtomKind → Type 0
IsValue None v = v ≡ None
IsValue (Some d) v = (k : AtomKind) × IsBase d k × (v ≡ Some k)

-- "min": 0 or 1, by default 1
abbrev pub IsLeast : Option Data → Bool → Type 0
IsLeast None may_be_empty = may_be_empty ≡ false
IsLeast (Some d) may_be_empty = d ≡ number (unsigned (if may_be_empty then 0 else 1))

-- "max": at least 1, or "unlimited", by default 1
abbrev pub IsMost : Option Data → Option ℕ → Type 0
IsMost None most = most ≡ Some 1
IsMost (Some d) None = d ≡ string (codes "unlimited")
IsMost (Some d) (Some n) = (1 ≤ n) × (d ≡ number (unsigned n))

-- a <type>: an <atomic-type>, or an object with "key", "value", "min" and "max"
abbrev pub IsType : Data → Column → Type 0
IsType d c =
    ((d ≡ string (name_of c.key)) × (c.value ≡ None) × (c.may_be_empty ≡ false) × (c.most ≡ Some 1))
    ⊎ ((key : Data) × (get (codes "key") d ≡ Some key) × IsBase key c.key × IsValue (get (codes "value") d) c.value × IsLeast (get (codes "min") d) c.may_be_empty × IsMost (get (codes "max") d) c.most)

-- a <column-schema> has a "type"
abbrev pub IsColumn : Data → Column → Type 0
IsColumn d c = (t : Data) × (get (codes "type") d ≡ Some t) × IsType t c

-- a column under its name, which is no reserved one
abbrev pub SpellsColumn : List ℕ → Data → NamedColumn → Type 0
SpellsColumn name d c = (c.name ≡ name) × (is_name name ≡ true) × IsColumn d c.column

-- a <table-schema> under its name: "columns" has the columns
abbrev pub SpellsTable : List ℕ → Data → Table → Type 0
SpellsTable name d t = (columns : Members) × (t.name ≡ name) × (is_name name ≡ true) × (get (codes "columns") d ≡ Some (object columns)) × EachSpells SpellsColumn columns t.columns

-- a <database-schema>: an <id> as its "name", a text as its "version", and "tables" with the tables
abbrev pub Spells : Data → Description → Type 0
Spells d s =
    (tables : Members) × (version : List ℕ) × (get (codes "name") d ≡ Some (string s.name)) × (is_id s.name ≡ true) × (get (codes "version") d ≡ Some (string version))
    × (get (codes "tables") d ≡ Some (object tables)) × EachSpells SpellsTable tables s.tables
