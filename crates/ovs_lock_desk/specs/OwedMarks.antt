-- For which locks a session may be owed something, as the marks of its names tell.
use Rattle.std.specs.Prelude.{◌≡◌, ◌≢◌, ℕ, Bool, true, false, List, Option, Some, None, if◌then◌else◌, is_some}
use Rattle.ovs_locks.specs.BySession.{Names, Sessions, mark_at, mark_in}
use Rattle.ovs_lock_desk.specs.PendingSteal.{open_session}
use Rattle.ovs_lock_desk.specs.RelayLock.{RelayLockValue, concerns, desk_owner}
use Rattle.ovs_lock_desk.specs.LockDesk.{RelayLocks, relay_lock_at, owes_here}
use Rattle.ovs_lock_desk.specs.declared.owed_marks.Near.{Near}

-- the mark of a session for a lock: none where it has nothing to do with it
abbrev pub desk_mark : ℕ → RelayLockValue → Option Bool
desk_mark session l = if concerns session l then Some (owes_here session l) else None

-- the session, if it is owed something for the lock
abbrev pub if_owed : Option ℕ → RelayLockValue → Option ℕ
if_owed None l = None
if_owed (Some session) l = if owes_here session l then Some session else None

abbrev pub near_of : RelayLockValue → Near
near_of l = record { owner = desk_owner l; stealer = open_session l.late }

-- a session is none of these, and doesn't own the lock now
pub record IsApart (near : Near) (session : ℕ) (l : RelayLockValue) : Type 0 where
  pub owner : near.owner ≢ Some session
  pub stealer : near.stealer ≢ Some session
  pub next : desk_owner l ≢ Some session

-- no session is owed anything for a lock whose name it has without a mark, where it is apart from that lock
abbrev pub AreMarkedBut : (ℕ → List ℕ → Type 0) → RelayLocks → Sessions → Type 0
AreMarkedBut IsFar locks sessions = (session : ℕ) (name : List ℕ) → mark_at session name sessions ≡ Some false → IsFar session name → owes_here session (relay_lock_at name locks) ≡ false

-- the marks of these, and of its owner, for the lock of this name may be old
abbrev pub AreOthersMarked : Near → List ℕ → RelayLocks → Sessions → Type 0
AreOthersMarked near name locks sessions = AreMarkedBut (λ session other. other ≡ name → IsApart near session (relay_lock_at name locks)) locks sessions

-- the marks of the owners of the locks of these names may be old
abbrev pub AreMarkedButOwners : Names → RelayLocks → Sessions → Type 0
AreMarkedButOwners names locks sessions = AreMarkedBut (λ session name. is_some (mark_in name names) ≡ true → desk_owner (relay_lock_at name locks) ≢ Some session) locks sessions

-- who loses a lock or a steal with the source is marked, and no mark is taken from another
pub record MarksLosers (locks : RelayLocks) (old new : Sessions) : Type 0 where
  pub names : (session : ℕ) (name : List ℕ) → mark_at session name new ≡ None → mark_at session name old ≡ None
  pub marks : (session : ℕ) (name : List ℕ) → mark_at session name new ≡ Some false → mark_at session name old ≡ Some false
  pub owners : (session : ℕ) (name : List ℕ) → mark_at session name new ≡ Some false → desk_owner (relay_lock_at name locks) ≢ Some session
  pub stealers : (session : ℕ) (name : List ℕ) → mark_at session name new ≡ Some false → open_session (relay_lock_at name locks).late ≢ Some session
