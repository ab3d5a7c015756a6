-- The names of the locks with which each session has to do, and for which of them it may be owed something.
use Rattle.std.specs.Prelude.{◌≡◌, ◌≢◌, ℕ, Bool, List, [], Option, Some, None, if◌then◌else◌, unwrap_or, option_and_then, option_map, false}
use Rattle.std.specs.Cmp.Lexicographic.{slice_cmp}
use Rattle.std.specs.List.{list_any}
use Rattle.std.specs.Map.{lookup}
use Rattle.std.specs.Ordering.{nat_cmp}
use Rattle.std.specs.BTreeMap.{is_at}
use Rattle.ovs_locks.specs.ByName.{ByName, named}

-- names, ascending, each with whether something may be owed
abbrev pub Names : Type 0
Names = ByName Bool

abbrev pub Sessions : Type 0
Sessions = List (ℕ × Names)

-- the names of a session; one that isn't there has none
abbrev pub names_at : ℕ → Sessions → Names
names_at session sessions = unwrap_or (lookup (is_at (nat_cmp session)) sessions) []

abbrev pub mark_in : List ℕ → Names → Option Bool
mark_in name names = lookup (is_at (slice_cmp nat_cmp name)) names

-- whether a session may be owed something for the lock of this name; none where it has nothing to do with it
abbrev pub mark_at : ℕ → List ℕ → Sessions → Option Bool
mark_at session name sessions = mark_in name (names_at session sessions)

-- whether something may be owed for one of them
abbrev pub is_some_owed : Names → Bool
is_some_owed names = list_any (λ (e : List ℕ × Bool). e.1) names

-- the names of a session, where something may be owed for one of them
abbrev pub owed_names : ℕ → Sessions → Option Names
owed_names session sessions = if is_some_owed (names_at session sessions) then Some (names_at session sessions) else None

-- the mark of this name becomes this, and no other changes
pub record NamesNote (old : Names) (name : List ℕ) (mark : Option Bool) (new : Names) : Type 0 where
  pub at : mark_in name new ≡ mark
  pub others : (other : List ℕ) → other ≢ name → mark_in other new ≡ mark_in other old

-- the mark of this session for this name becomes this, and no other changes
pub record Notes (old : Sessions) (session : ℕ) (name : List ℕ) (mark : Option Bool) (new : Sessions) : Type 0 where
  pub at : mark_at session name new ≡ mark
  pub others : (other : List ℕ) → other ≢ name → mark_at session other new ≡ mark_at session other old
  pub sessions : (other : ℕ) → other ≢ session → names_at other new ≡ names_at other old

-- this session is owed nothing more
pub record TellsAll (session : ℕ) (old new : Sessions) : Type 0 where
  pub at : (name : List ℕ) → mark_at session name new ≡ option_map (λ _. false) (mark_at session name old)
  pub sessions : (other : ℕ) → other ≢ session → names_at other new ≡ names_at other old

-- this session has no names, and the others have theirs
pub record Forgets (session : ℕ) (old new : Sessions) : Type 0 where
  pub gone : names_at session new ≡ []
  pub sessions : (other : ℕ) → other ≢ session → names_at other new ≡ names_at other old

-- the mark of this session becomes as said, if it has the name
abbrev pub Remarks : (ℕ → Option Bool) → ℕ → List ℕ → Sessions → Sessions → Type 0
Remarks mark session name old new = Notes old session name (option_and_then (λ _. mark session) (mark_at session name old)) new

abbrev pub RemarksAny : (ℕ → Option Bool) → Option ℕ → List ℕ → Sessions → Sessions → Type 0
RemarksAny mark None name old new = new ≡ old
RemarksAny mark (Some session) name old new = Remarks mark session name old new

-- each session has the names of the locks for which it has a mark
abbrev pub IsListed : {L : Type 0} → (ℕ → L → Option Bool) → L → ByName L → Sessions → Type 0
IsListed mark unasked locks sessions = (session : ℕ) (name : List ℕ) → mark_at session name sessions ≡ mark session (named unasked name locks)
