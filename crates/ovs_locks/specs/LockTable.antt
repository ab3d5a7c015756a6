-- The locks of a server, by name.
use Rattle.std.specs.Prelude.{◌≡◌, ◌≢◌, ◌<◌, ◌≤◌, ℕ, Bool, true, false, not, ◌&&◌, List, filter, length, None, Result, Ok, Err, codes, nat_eq}
use Rattle.std.specs.Cmp.Lexicographic.{pointwise}
use Rattle.std.specs.List.{list_any}
use Rattle.ovs_data.specs.Names.{is_id}
use Rattle.ovs_locks.specs.ByName.{ByName, Ascends, named, gathered}
use Rattle.ovs_locks.specs.ByName as by_name
use Rattle.ovs_locks.specs.BySession.{Names, Sessions, IsListed, mark_in, mark_at}
use Rattle.ovs_locks.specs.Lock.{LockValue, no_lock, is_idle, stands, mark, without, AsksAs, owed_for, SameSessions}
use Rattle.ovs_locks.specs.declared.notice.LockNotice.{LockNotice}
use Rattle.ovs_locks.specs.declared.waiter.Asking.{Asking}
use Rattle.ovs_locks.specs.declared.error.LockError.{LockError}
use Rattle.ovs_locks.specs.declared.error.LockError.TheVariants.{BadLock, AlreadyAsked, TooMany, NoMemory}

abbrev pub Locks : Type 0
Locks = ByName LockValue

-- by the bytes of the names, each once
abbrev pub AscendByName : Locks → Type 0
AscendByName locks = Ascends locks

-- in each a session stands
abbrev pub NoneIdle : Locks → Type 0
NoneIdle locks = by_name.NoneIdle is_idle locks

-- an <id>, but for `_none`, which no session holds
abbrev pub is_lock : List ℕ → Bool
is_lock name = is_id name && not (pointwise nat_eq name (codes "_none"))

-- the lock of a name; nobody asked for one that isn't there
abbrev pub lock_at : List ℕ → Locks → LockValue
lock_at name locks = named no_lock name locks

-- the lock of this name becomes what f makes of it, and all others stay as they are
abbrev pub ChangesAt : List ℕ → (LockValue → LockValue) → Locks → Locks → Type 0
ChangesAt name f old new = by_name.ChangesAt is_idle no_lock name f old new

-- the lock of this name becomes this, and no other changes
abbrev pub Becomes : Locks → List ℕ → LockValue → Locks → Type 0
Becomes old name lock new =
    (lock_at name new ≡ lock) × ((other : List ℕ) → other ≢ name → lock_at other new ≡ lock_at other old)

-- each lock becomes what f makes of it
abbrev pub AllBecome : Locks → (LockValue → LockValue) → Locks → Type 0
AllBecome old f new = (name : List ℕ) → lock_at name new ≡ f (lock_at name old)

-- the locks in whose lists a session stands
abbrev pub locks_of : ℕ → Locks → Locks
locks_of session locks = filter (λ (e : List ℕ × LockValue). stands session e.1) locks

-- so many a session may have asked for
abbrev pub most_locks : ℕ
most_locks = 1024

-- what asking for a lock by its name answers
abbrev pub AnswersAs : Asking → ℕ → List ℕ → Locks → Result Bool LockError → Type 0
AnswersAs how session name locks (Ok answer) =
    (is_lock name ≡ true) × AsksAs how session (lock_at name locks) (Ok answer) × (length (locks_of session locks) < most_locks)
AnswersAs how session name locks (Err BadLock) = is_lock name ≡ false
AnswersAs how session name locks (Err AlreadyAsked) = (is_lock name ≡ true) × AsksAs how session (lock_at name locks) (Err AlreadyAsked)
AnswersAs how session name locks (Err TooMany) =
    (is_lock name ≡ true) × (stands session (lock_at name locks) ≡ false) × (most_locks ≤ length (locks_of session locks))
AnswersAs how session name locks (Err NoMemory) =
    (is_lock name ≡ true) × AsksAs how session (lock_at name locks) (Err NoMemory) × (length (locks_of session locks) < most_locks)

-- what a session is owed, lock by lock
abbrev pub owed_to : ℕ → Locks → List LockNotice
owed_to session locks = gathered (owed_for session) locks

-- each lock has the sessions that it had, in the same order
abbrev pub KeepsSessions : Locks → Locks → Type 0
KeepsSessions old new = (name : List ℕ) → SameSessions (lock_at name old) (lock_at name new)

-- whether a session stands in the lists of some lock
abbrev pub stands_somewhere : ℕ → Locks → Bool
stands_somewhere session locks = list_any (λ e. stands session e.1) locks

-- all but this session are listed, and it stands at most in the lists of the locks with these names
pub record LeavesFrom (session : ℕ) (names : Names) (locks : Locks) (sessions : Sessions) : Type 0 where
  pub at : (name : List ℕ) → mark_in name names ≡ None → stands session (lock_at name locks) ≡ false
  pub listed : (other : ℕ) (name : List ℕ) → other ≢ session → mark_at other name sessions ≡ mark other (lock_at name locks)
  pub gone : (name : List ℕ) → mark_at session name sessions ≡ None

-- this session has left all lists, and each session is listed
pub record Leaves (session : ℕ) (old new : Locks) (sessions : Sessions) : Type 0 where
  pub locks : AllBecome old (without session) new
  pub listed : IsListed mark no_lock new sessions
