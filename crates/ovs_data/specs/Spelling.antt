-- The JSON values that stand for a datum (RFC 7047 section 5.1).
use Rattle.std.specs.Prelude.{◌≡◌, ◌<◌, ◌⊎◌, ℕ, List, map, slice_get, [], ◌∷◌, true, Some, None, codes, length}
use Rattle.serde_json.specs.Data.{Num, Data, boolean, number, string, Items, no_items}
use Rattle.serde_json.specs.Find.{as_i64}
use Rattle.ovs_data.specs.declared.atom.Atom.{Atom}
use Rattle.ovs_data.specs.declared.atom.Atom.TheVariants.{Integer, Boolean, String, Uuid}
use Rattle.ovs_data.specs.declared.atom.AtomKind.{AtomKind}
use Rattle.ovs_data.specs.declared.column.Column.{Column}
use Rattle.ovs_data.specs.declared.datum.pairs.Pair.{Pair}
use Rattle.ovs_data.specs.declared.datum.Datum.{Datum}
use Rattle.ovs_data.specs.declared.datum.Datum.TheVariants.{Set, Map}
use Rattle.ovs_data.specs.Atom.{kind_of}
use Rattle.ovs_data.specs.Column.{may_count}
use Rattle.ovs_data.specs.Datum.{contains, value_at, IsOrdered}
use Rattle.ovs_data.specs.Id.{read_id}
use Rattle.ovs_json.specs.Items.{SpellsEach}
use Rattle.ovs_json.specs.Putting.{two, listed}

-- a number of 64 bits, a boolean, a text, or ["uuid", an id's text]
abbrev pub SpellsValue : Data → Atom → Type 0
SpellsValue d (Integer z) = (n : Num) × (d ≡ number n) × (as_i64 n ≡ Some z)
SpellsValue d (Boolean b) = d ≡ boolean b
SpellsValue d (String s) = d ≡ string s
SpellsValue d (Uuid id) = (text : List ℕ) × (d ≡ two (string (codes "uuid")) (string text)) × (read_id text ≡ Some id)

-- a list of a key and its value
abbrev pub SpellsBoth : Data → Pair → Type 0
SpellsBoth d p = (k : Data) × (v : Data) × (d ≡ two k v) × SpellsValue k p.key × SpellsValue v p.value

-- an atom of this kind
abbrev pub SpellsAtom : AtomKind → Data → Atom → Type 0
SpellsAtom kind d x = (kind_of x ≡ kind) × SpellsValue d x

-- a set of exactly the atoms of a list that has none twice
abbrev pub IsSetOf : List Atom → List Atom → Type 0
IsSetOf listed xs = ((x : Atom) → contains x xs ≡ contains x listed) × (length xs ≡ length listed)

-- a map of exactly the pairs of a list that has no key twice
abbrev pub IsMapOf : List Pair → List Pair → Type 0
IsMapOf listed ps = ((k : Atom) → value_at k ps ≡ value_at k listed) × (length ps ≡ length listed)

-- ---- sets and maps, with what spells their atoms

module _ (Spelled : AtomKind → Data → Atom → Type 0) where
  -- a list of a key and its value of the kinds
  abbrev pub SpellsPair : AtomKind → AtomKind → Data → Pair → Type 0
  SpellsPair key value d p = (k : Data) × (v : Data) × (d ≡ two k v) × Spelled key k p.key × Spelled value v p.value

  -- the elements in a list under "set", or one element alone
  abbrev pub SpellsElements : AtomKind → Data → List Atom → Type 0
  SpellsElements kind d xs =
      ((ds : Items) × (d ≡ listed (codes "set") ds) × SpellsEach (Spelled kind) ds xs)
      ⊎ ((x : Atom) × (xs ≡ x ∷ []) × Spelled kind d x)

  -- the pairs in a list under "map"
  abbrev pub SpellsPairs : AtomKind → AtomKind → Data → List Pair → Type 0
  SpellsPairs key value d ps = (ds : Items) × (d ≡ listed (codes "map") ds) × SpellsEach (SpellsPair key value) ds ps

  -- the JSON value stands for the datum of a column
  abbrev pub SpellsDatum : Column → Data → Datum → Type 0
  SpellsDatum c d (Set xs) =
      (listed : List Atom) × (c.value ≡ None) × SpellsElements c.key d listed × IsSetOf listed xs × IsOrdered (Set xs)
      × (may_count c (length xs) ≡ true)
  SpellsDatum c d (Map ps) =
      (value : AtomKind) × (listed : List Pair) × (c.value ≡ Some value) × SpellsPairs c.key value d listed × IsMapOf listed ps
      × IsOrdered (Map ps) × (may_count c (length ps) ≡ true)

-- ---- data as they are written

-- the JSON value stands for the datum
abbrev pub Spells : Column → Data → Datum → Type 0
Spells = SpellsDatum SpellsAtom

-- two places of a list have the same atom
abbrev pub IsRepeated : List Atom → Type 0
IsRepeated xs = (i : ℕ) × (j : ℕ) × (x : Atom) × (i < j) × (slice_get xs i ≡ Some x) × (slice_get xs j ≡ Some x)

-- the JSON value is of the column's shape and kinds, and two of the elements or keys that it lists are equal
abbrev pub HasRepeat : Column → Data → Type 0
HasRepeat c d =
    ((listed : List Atom) × (c.value ≡ None) × SpellsElements SpellsAtom c.key d listed × IsRepeated listed)
    ⊎ ((value : AtomKind) × (listed : List Pair) × (c.value ≡ Some value) × SpellsPairs SpellsAtom c.key value d listed × IsRepeated (map (λ p. p.key) listed))

-- one element as itself, every other set under "set", a map under "map"
abbrev pub IsWritten : Data → Datum → Type 0
IsWritten d (Set []) = d ≡ listed (codes "set") no_items
IsWritten d (Set (x ∷ [])) = SpellsValue d x
IsWritten d (Set (x ∷ y ∷ ys)) = (ds : Items) × (d ≡ listed (codes "set") ds) × SpellsEach SpellsValue ds (x ∷ y ∷ ys)
IsWritten d (Map ps) = (ds : Items) × (d ≡ listed (codes "map") ds) × SpellsEach SpellsBoth ds ps
