-- Locks by name, whatever a lock is: a list in which each name stands once, and no idle lock.
use Rattle.std.specs.Prelude.{ℕ, Bool, List, [], ◌∷◌, ◌++◌, ◌≡◌, false, if◌then◌else◌, unwrap_or}
use Rattle.std.specs.Ordering.{nat_cmp}
use Rattle.std.specs.Cmp.Lexicographic.{slice_cmp}
use Rattle.std.specs.List.{AllByRecursion}
use Rattle.std.specs.List.Sorted.{IsStrictlySortedBy}
use Rattle.std.specs.Map.{lookup, keys_of}
use Rattle.std.specs.BTreeMap.{is_at}

abbrev pub ByName : Type 0 → Type 0
ByName L = List (List ℕ × L)

-- by the bytes of the names, each once
abbrev pub Ascends : {L : Type 0} → ByName L → Type 0
Ascends locks = IsStrictlySortedBy (slice_cmp nat_cmp) (keys_of locks)

abbrev pub NoneIdle : {L : Type 0} → (L → Bool) → ByName L → Type 0
NoneIdle {L} idle locks = AllByRecursion (λ (e : List ℕ × L). idle e.1 ≡ false) locks

-- the lock of a name; one that isn't there is as nobody asked for it
abbrev pub named : {L : Type 0} → L → List ℕ → ByName L → L
named unasked name locks = unwrap_or (lookup (is_at (slice_cmp nat_cmp name)) locks) unasked

-- a lock under its name, unless it is idle
abbrev pub kept : {L : Type 0} → (L → Bool) → List ℕ → L → ByName L
kept idle name l = if idle l then [] else (name, l) ∷ []

-- the lock of this name becomes what f makes of it, and all others stay as they are
pub record ChangesAt {L : Type 0} (idle : L → Bool) (unasked : L) (name : List ℕ) (f : L → L) (old new : ByName L) : Type 0 where
  pub before : ByName L
  pub after : ByName L
  pub lock : L
  pub at : lock ≡ named unasked name old
  pub was : old ≡ before ++ (kept idle name lock ++ after)
  pub now : new ≡ before ++ (kept idle name (f lock) ++ after)

-- each lock becomes what f makes of it, and leaves where it is idle then
abbrev pub changed : {L : Type 0} → (L → Bool) → (L → L) → ByName L → ByName L
changed idle f [] = []
changed idle f (e ∷ es) = if idle (f e.1) then changed idle f es else (e.0, f e.1) ∷ changed idle f es

-- what g makes of each lock, in the order of their names
abbrev pub gathered : {L X : Type 0} → (List ℕ → L → List X) → ByName L → List X
gathered g [] = []
gathered g (e ∷ es) = g e.0 e.1 ++ gathered g es
