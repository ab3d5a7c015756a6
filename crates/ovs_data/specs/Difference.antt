-- Differences between two data of a column, as update notifications carry them.
use Rattle.std.specs.Prelude.{◌≡◌, ◌↔◌, List, ◌++◌, Bool, true, false, not, Option, Some, None, if◌then◌else◌, MatchBool}
use Rattle.std.specs.List.{filter}
use Rattle.std.specs.Option.{option_eq}
use Rattle.ovs_data.specs.declared.atom.Atom.{Atom}
use Rattle.ovs_data.specs.declared.column.Column.{Column}
use Rattle.ovs_data.specs.declared.datum.pairs.Pair.{Pair}
use Rattle.ovs_data.specs.declared.datum.Datum.{Datum}
use Rattle.ovs_data.specs.declared.datum.Datum.TheVariants.{Set, Map}
use Rattle.ovs_data.specs.Atom.{atom_cmp, atom_eq}
use Rattle.ovs_data.specs.Column.{is_single}
use Rattle.ovs_data.specs.Datum.{contains, value_at, is_empty, IsAlike, IsOrdered}
use Rattle.ovs_data.specs.Ascending.{in_order}
use Rattle.ovs_data.specs.Pairs.{key_cmp}

-- in exactly one of the two
abbrev pub in_one : Bool → Bool → Bool
in_one true b = not b
in_one false b = b

-- of a key in one map only its value, and the second of two values that differ
abbrev pub changed : Option Atom → Option Atom → Option Atom
changed None w = w
changed (Some v) None = Some v
changed (Some v) (Some w) = if atom_eq v w then None else Some w

-- the elements of exactly one of the two; the pairs of keys of only one of the two, and of keys in
-- both with different values those of the second
abbrev pub IsExchange : Datum → Datum → Datum → Type 0
IsExchange (Set old) (Set new) (Set d) = (x : Atom) → contains x d ≡ in_one (contains x old) (contains x new)
IsExchange (Map old) (Map new) (Map d) = (k : Atom) → value_at k d ≡ changed (value_at k old) (value_at k new)
IsExchange (Set old) (Set new) (Map d) = ⊥
IsExchange (Set old) (Map new) d = ⊥
IsExchange (Map old) (Set new) d = ⊥
IsExchange (Map old) (Map new) (Set d) = ⊥

-- d is the difference from old to new: the whole of new for a single column
abbrev pub IsDifference : Column → Datum → Datum → Datum → Type 0
IsDifference c old new d = MatchBool (is_single c) (d ≡ new) (IsExchange old new d)

-- ---- the same as functions, for definitions that need a value

-- whether the exchange of two maps has the pair at its key
abbrev pub is_exchanged : List Pair → List Pair → Pair → Bool
is_exchanged old new p = option_eq atom_eq (changed (value_at p.key old) (value_at p.key new)) (Some p.value)

-- in order, of two sets the elements in exactly one of the two; of two maps the pairs whose key is in only one of them,
-- and for a key in both with different values the key with the new value (a set and a map are never data of one column,
-- so that their exchange is never asked for)
abbrev pub exchange_of : Datum → Datum → Datum
exchange_of (Set old) (Set new) = Set (in_order atom_cmp (filter (λ x. in_one (contains x old) (contains x new)) (old ++ new)))
exchange_of (Map old) (Map new) = Map (in_order key_cmp (filter (is_exchanged old new) (old ++ new)))
exchange_of (Set old) (Map new) = Map new
exchange_of (Map old) (Set new) = Set new

-- the difference from old to new
abbrev pub difference_of : Column → Datum → Datum → Datum
difference_of c old new = if is_single c then new else exchange_of old new

-- the datum to which diff is the difference from old
abbrev pub changed_by : Column → Datum → Datum → Datum
changed_by c old diff = if is_single c then diff else exchange_of old diff

-- the difference from one datum to another, applied to the one, gives the other
abbrev pub AppliedDifferenceGivesTheOther : Type 0
AppliedDifferenceGivesTheOther = (c : Column) (old new : Datum) → IsAlike old new → IsOrdered old → IsOrdered new → changed_by c old (difference_of c old new) ≡ new

-- of a column of any number of elements the difference of two data is empty exactly where they are equal
abbrev pub EmptyExactlyWhereNothingChanged : Type 0
EmptyExactlyWhereNothingChanged = (c : Column) (old new : Datum) → is_single c ≡ false → IsAlike old new → IsOrdered old → IsOrdered new → (is_empty (difference_of c old new) ≡ true) ↔ (old ≡ new)
