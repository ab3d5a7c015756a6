-- The names of the locks for which something is due upward.
use Rattle.std.specs.Prelude.{◌≡◌, ◌≢◌, ℕ, Bool, true, false, List}
use Rattle.std.specs.BTreeMap.{is_at}
use Rattle.std.specs.Cmp.Lexicographic.{slice_cmp}
use Rattle.std.specs.List.{list_any}
use Rattle.std.specs.Ordering.{nat_cmp}

-- the names that are listed, ascending, and whether each lock that has something due is among them
pub record DueValue : Type 0 where
  pub is_whole : Bool
  pub names : List (List ℕ)

abbrev pub is_among : List ℕ → List (List ℕ) → Bool
is_among name names = list_any (is_at (slice_cmp nat_cmp name)) names

abbrev pub is_listed : List ℕ → DueValue → Bool
is_listed name due = is_among name due.names

-- a list that is whole was whole before; it lists this name just where something is due for it, and no other but those that it did
pub record NotesDue (name : List ℕ) (is_due : Bool) (old new : DueValue) : Type 0 where
  pub whole : new.is_whole ≡ true → old.is_whole ≡ true
  pub here : new.is_whole ≡ true → is_due ≡ true → is_listed name new ≡ true
  pub gone : is_due ≡ false → is_listed name new ≡ false
  pub others : (other : List ℕ) → other ≢ name → is_listed other new ≡ is_listed other old
