-- What a desk knows of its locks, of what is due upward for them, and of what went up.
use Rattle.std.specs.Prelude.{◌≡◌, ◌≢◌, ℕ, Bool, true, false, List, Option, Some, is_some}
use Rattle.ovs_locks.specs.BySession.{Sessions, Notes, mark_at}
use Rattle.ovs_lock_desk.specs.LockState.{is_sent}
use Rattle.ovs_lock_desk.specs.RelayLock.{RelayLockValue, IsSettled, IsStolenByOne, is_due_up}
use Rattle.ovs_lock_desk.specs.DueNames.{DueValue, is_listed}
use Rattle.ovs_lock_desk.specs.declared.lock_state.LockVerb.{LockVerb}
use Rattle.ovs_lock_desk.specs.declared.lock_state.LockVerb.TheVariants as verbs
use Rattle.ovs_lock_desk.specs.LockDesk.{RelayLocks, IsDeskTable, AreListed, relay_lock_at}

abbrev pub is_open_under : ℕ → RelayLockValue → Bool
is_open_under number l = is_sent number l.state

-- each number has the names of the locks that were asked for under it and whose request isn't answered
abbrev pub AreRequested : RelayLocks → Sessions → Type 0
AreRequested locks requests = AreListed is_open_under locks requests

-- and of no others
abbrev pub AreOpen : RelayLocks → Sessions → Type 0
AreOpen locks requests = (number : ℕ) (name : List ℕ) → is_some (mark_at number name requests) ≡ true → is_open_under number (relay_lock_at name locks) ≡ true

-- the same, but that the request of this number for the lock of this name may be answered or given up
abbrev pub OthersOpen : Option ℕ → List ℕ → RelayLocks → Sessions → Type 0
OthersOpen changed name locks requests =
    (number : ℕ) (other : List ℕ) → is_some (mark_at number other requests) ≡ true → is_open_under number (relay_lock_at other locks) ≡ false → (other ≡ name) × (changed ≡ Some number)

-- a list that is whole has each name for which something is due, and none has another
pub record ListsDue (locks : RelayLocks) (due : DueValue) : Type 0 where
  pub all : due.is_whole ≡ true → (name : List ℕ) → is_listed name due ≡ false → is_due_up (relay_lock_at name locks) ≡ false
  pub only : (name : List ℕ) → is_listed name due ≡ true → is_due_up (relay_lock_at name locks) ≡ true

-- the same of all names but this
pub record ListsOtherDue (name : List ℕ) (locks : RelayLocks) (due : DueValue) : Type 0 where
  pub all : due.is_whole ≡ true → (other : List ℕ) → other ≢ name → is_listed other due ≡ false → is_due_up (relay_lock_at other locks) ≡ false
  pub only : (other : List ℕ) → other ≢ name → is_listed other due ≡ true → is_due_up (relay_lock_at other locks) ≡ true

-- what is asked for under this number is open from now on, but for an Unlock, for which no answer is waited
abbrev pub Opens : LockVerb → ℕ → List ℕ → Sessions → Sessions → Type 0
Opens verbs.Lock number name old new = Notes old number name (Some false) new
Opens verbs.Steal number name old new = Notes old number name (Some false) new
Opens verbs.Unlock number name old new = new ≡ old

abbrev pub AreSettled : RelayLocks → Type 0
AreSettled locks = (name : List ℕ) → IsSettled (relay_lock_at name locks)

abbrev pub AreStolenByOne : RelayLocks → Type 0
AreStolenByOne locks = (name : List ℕ) → IsStolenByOne (relay_lock_at name locks)

pub record IsUpwardTable (locks : RelayLocks) (requests : Sessions) (due : DueValue) : Type 0 where
  pub table : IsDeskTable locks
  pub settled : AreSettled locks
  pub by_one : AreStolenByOne locks
  pub requested : AreRequested locks requests
  pub only_open : AreOpen locks requests
  pub listed : ListsDue locks due
