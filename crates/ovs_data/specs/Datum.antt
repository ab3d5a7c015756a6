-- Data: what they hold, and what a datum of a column is (RFC 7047 section 5.1).
use Rattle.std.specs.Prelude.{◌≡◌, ℕ, List, [], ◌∷◌, Bool, true, false, ◌||◌, Option, Some, None, IsSome, if◌then◌else◌, length}
use Rattle.ovs_data.specs.declared.atom.Atom.{Atom}
use Rattle.ovs_data.specs.declared.atom.AtomKind.{AtomKind}
use Rattle.ovs_data.specs.declared.column.Column.{Column}
use Rattle.ovs_data.specs.declared.datum.pairs.Pair.{Pair}
use Rattle.ovs_data.specs.declared.datum.Datum.{Datum}
use Rattle.ovs_data.specs.declared.datum.Datum.TheVariants.{Set, Map}
use Rattle.ovs_data.specs.Atom.{atom_cmp, atom_eq, default_atom, kind_of, IsBounded}
use Rattle.ovs_data.specs.Ascending.{IsAscending}
use Rattle.ovs_data.specs.Column.{may_count}

-- ---- what a datum holds

-- whether a set has an element
abbrev pub contains : Atom → List Atom → Bool
contains x [] = false
contains x (y ∷ ys) = atom_eq x y || contains x ys

-- the value at a key
abbrev pub value_at : Atom → List Pair → Option Atom
value_at k [] = None
value_at k (p ∷ ps) = if atom_eq k p.key then Some p.value else value_at k ps

-- whether the datum is a set with this element
abbrev pub has_element : Atom → Datum → Bool
has_element x (Set xs) = contains x xs
has_element x (Map ps) = false

-- the value at a key of a map
abbrev pub value_in : Atom → Datum → Option Atom
value_in k (Set xs) = None
value_in k (Map ps) = value_at k ps

-- the elements of a set, ascending
abbrev pub elements_of : Datum → List Atom
elements_of (Set xs) = xs
elements_of (Map ps) = []

-- the pairs of a map, their keys ascending
abbrev pub pairs_of : Datum → List Pair
pairs_of (Set xs) = []
pairs_of (Map ps) = ps

-- how many elements or pairs there are
abbrev pub datum_len : Datum → ℕ
datum_len (Set xs) = length xs
datum_len (Map ps) = length ps

-- whether there is no element and no pair
abbrev pub is_empty : Datum → Bool
is_empty (Set []) = true
is_empty (Set (x ∷ xs)) = false
is_empty (Map []) = true
is_empty (Map (p ∷ ps)) = false

-- ---- what a datum of a column is

-- elements, or keys, ascend, each once
abbrev pub IsOrdered : Datum → Type 0
IsOrdered (Set xs) = IsAscending atom_cmp (λ x. x) xs
IsOrdered (Map ps) = IsAscending atom_cmp (λ p. p.key) ps

-- both are sets, or both are maps
abbrev pub IsAlike : Datum → Datum → Type 0
IsAlike (Set x) (Set y) = Unit {0}
IsAlike (Map x) (Map y) = Unit {0}
IsAlike (Set x) (Map y) = ⊥
IsAlike (Map x) (Set y) = ⊥

-- a map where the column has a value, else a set
abbrev pub IsShaped : Column → Datum → Type 0
IsShaped c (Set xs) = c.value ≡ None
IsShaped c (Map ps) = IsSome c.value

-- elements are of the column's kind, keys of its key's and values of its value's
abbrev pub HasKinds : Column → Datum → Type 0
HasKinds c (Set xs) = (x : Atom) → contains x xs ≡ true → kind_of x ≡ c.key
HasKinds c (Map ps) = (k v : Atom) → value_at k ps ≡ Some v → (kind_of k ≡ c.key) × (Some (kind_of v) ≡ c.value)

-- each atom is within the bounds of its kind
abbrev pub AreBounded : Datum → Type 0
AreBounded (Set xs) = (x : Atom) → contains x xs ≡ true → IsBounded x
AreBounded (Map ps) = (k v : Atom) → value_at k ps ≡ Some v → IsBounded k × IsBounded v

pub record IsDatumOf (c : Column) (d : Datum) : Type 0 where
  pub shape : IsShaped c d
  pub order : IsOrdered d
  pub kinds : HasKinds c d
  pub count : may_count c (datum_len d) ≡ true

-- ---- the datum of a column that was given none

abbrev pub empty_of : Option AtomKind → Datum
empty_of None = Set []
empty_of (Some value) = Map []

abbrev pub one_default : AtomKind → Option AtomKind → Datum
one_default key None = Set (default_atom key ∷ [])
one_default key (Some value) = Map (record { key = default_atom key; value = default_atom value } ∷ [])

-- nothing where that may be, else one default element or pair
abbrev pub default_datum : Column → Datum
default_datum c = if c.may_be_empty then empty_of c.value else one_default c.key c.value
