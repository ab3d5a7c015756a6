-- The locks of a relay's desk, by name.
use Rattle.std.specs.Prelude.{◌≡◌, ℕ, Bool, false, not, ◌&&◌, ◌||◌, nat_lt, length, List, [], ◌∷◌, ◌++◌, map, filter, Option, Some, None, if◌then◌else◌, option_map}
use Rattle.std.specs.List.{list_any}
use Rattle.serde_json.specs.Data.{Data}
use Rattle.ovs_locks.specs.ByName.{ByName, Ascends, named, changed, gathered}
use Rattle.ovs_locks.specs.ByName as by_name
use Rattle.ovs_locks.specs.BySession.{Sessions, mark_at}
use Rattle.ovs_locks.specs.declared.notice.LockNotice.{LockNotice}
use Rattle.ovs_locks.specs.Lock.{owed_for, stands, is_owed}
use Rattle.ovs_locks.specs.LockTable.{is_lock, most_locks}
use Rattle.ovs_lock_desk.specs.LockState.{is_sent, verb_due}
use Rattle.ovs_lock_desk.specs.PendingSteal.{is_won, is_due_late, is_own_open}
use Rattle.ovs_lock_desk.specs.RelayLock.{RelayLockValue, no_relay_lock, is_desk_idle, concerns, step, refusal, enters}
use Rattle.ovs_lock_desk.specs.declared.lock_state.LockEvent.{LockEvent}
use Rattle.ovs_lock_desk.specs.declared.lock_state.LockEvent.TheVariants as events
use Rattle.ovs_lock_desk.specs.declared.lock_state.LockVerb.{LockVerb}
use Rattle.ovs_lock_desk.specs.declared.desk_notice.DeskNotice.{DeskNotice}
use Rattle.ovs_lock_desk.specs.declared.desk_notice.DeskNotice.TheVariants as tells
use Rattle.ovs_lock_desk.specs.declared.error.DeskError.{DeskError}
use Rattle.ovs_lock_desk.specs.declared.error.DeskError.TheVariants.{BadLock, TooMany}
use Rattle.ovs_lock_desk.specs.declared.pending_steal.PendingSteal.{PendingSteal}

abbrev pub RelayLocks : Type 0
RelayLocks = ByName RelayLockValue

-- whether there is a source, and the locks, ascending by their names
pub record DeskValue : Type 0 where
  pub has_source : Bool
  pub locks : RelayLocks

-- none of them is idle: each has a session in its lists, an answer that is owed, or something under way
abbrev pub NoneIdle : RelayLocks → Type 0
NoneIdle locks = by_name.NoneIdle is_desk_idle locks

-- what holds of a desk's locks at all times: their names ascend, and idle ones are gone
pub record IsDeskTable (locks : RelayLocks) : Type 0 where
  pub ascend : Ascends locks
  pub none_idle : NoneIdle locks

-- the lock of a name; nobody asked for one that isn't there
abbrev pub relay_lock_at : List ℕ → RelayLocks → RelayLockValue
relay_lock_at name locks = named no_relay_lock name locks

-- the lock of this name becomes what f makes of it, and all others stay as they are
abbrev pub ChangesAt : List ℕ → (RelayLockValue → RelayLockValue) → RelayLocks → RelayLocks → Type 0
ChangesAt name f old new = by_name.ChangesAt is_desk_idle no_relay_lock name f old new

-- each lock becomes what the event makes of it
abbrev pub stepped : LockEvent → RelayLocks → RelayLocks
stepped event locks = changed is_desk_idle (step event) locks

abbrev pub or_else : {X : Type 0} → Option X → Option X → Option X
or_else None y = y
or_else (Some x) y = Some x

-- the locks in whose lists a session stands
abbrev pub locks_of : ℕ → RelayLocks → RelayLocks
locks_of session locks = filter (λ (e : List ℕ × RelayLockValue). stands session e.1.lock) locks

-- whether a session has asked for as many as it may
abbrev pub is_full : ℕ → RelayLocks → Bool
is_full session locks = not (nat_lt (length (locks_of session locks)) most_locks)

-- why a session's asking is refused: only a lock that is asked for needs a name that a lock may have, and room for one more
abbrev pub refusal_at : Bool → LockVerb → ℕ → List ℕ → RelayLocks → Option DeskError
refusal_at has_source verb session name locks =
    if enters verb && not (is_lock name) then Some BadLock
    else or_else (refusal has_source verb session (relay_lock_at name locks)) (if enters verb && is_full session locks then Some TooMany else None)

-- ---- what is due upward

-- of the least name that has something due: its name, and what is due first
abbrev pub first_due_up : RelayLocks → Option (List ℕ × LockVerb)
first_due_up [] = None
first_due_up (e ∷ es) = or_else (option_map (λ verb. (e.0, verb)) (verb_due e.1.state)) (first_due_up es)

abbrev pub SendsOf : Option (List ℕ × LockVerb) → ℕ → RelayLocks → RelayLocks → Type 0
SendsOf None number old new = new ≡ old
SendsOf (Some d) number old new = ChangesAt d.0 (step (events.Sent number)) old new

-- what is due first of the least name that has something due went up under this number
abbrev pub SendsFirst : ℕ → RelayLocks → RelayLocks → Type 0
SendsFirst number old new = SendsOf (first_due_up old) number old new

-- whether a request of this number isn't answered
abbrev pub is_sent_at : ℕ → RelayLocks → Bool
is_sent_at n [] = false
is_sent_at n (e ∷ es) = is_sent n e.1.state || is_sent_at n es

-- ---- what is owed

abbrev pub answers_here : ℕ → List ℕ → RelayLockValue → List (List ℕ × PendingSteal)
answers_here session name l = map (λ late. (name, late)) (filter (is_due_late session) l.late)

-- the steals of a session that were answered and not told, lock by lock
abbrev pub answers_to : ℕ → RelayLocks → List (List ℕ × PendingSteal)
answers_to session locks = gathered (answers_here session) locks

abbrev pub notices_here : ℕ → List ℕ → RelayLockValue → List LockNotice
notices_here session name l = owed_for session name l.lock

-- the notices that a session is owed, lock by lock
abbrev pub notices_to : ℕ → RelayLocks → List LockNotice
notices_to session locks = gathered (notices_here session) locks

-- how a late answer is told, under the id of the request
abbrev pub told_of : PendingSteal → DeskNotice
told_of late = tells.Answered late.id (is_won late.outcome)

-- the answers that a session is owed, as they are told
abbrev pub answers_told : ℕ → RelayLocks → List DeskNotice
answers_told session locks = map (λ (a : List ℕ × PendingSteal). told_of a.1) (answers_to session locks)

-- all that a session is owed: first the answers, then the notices
abbrev pub owed_to : ℕ → RelayLocks → List DeskNotice
owed_to session locks = answers_told session locks ++ map tells.Lock (notices_to session locks)

abbrev pub open_here : ℕ → List ℕ → RelayLockValue → List Data
open_here session name l = map (λ (late : PendingSteal). late.id) (filter (is_own_open session) l.late)

-- the ids of a session's steals that aren't answered
abbrev pub open_steals : ℕ → RelayLocks → List Data
open_steals session locks = gathered (open_here session) locks

-- whether a session stands in the lists of some lock
abbrev pub stands_at : ℕ → RelayLocks → Bool
stands_at session locks = list_any (λ (e : List ℕ × RelayLockValue). stands session e.1.lock) locks

-- whether a session is owed something for a lock
abbrev pub owes_here : ℕ → RelayLockValue → Bool
owes_here session l = list_any (is_due_late session) l.late || is_owed session l.lock

-- each number has the names of the locks that pass this test of the number
abbrev pub AreListed : (ℕ → RelayLockValue → Bool) → RelayLocks → Sessions → Type 0
AreListed test locks lists = (number : ℕ) (name : List ℕ) → mark_at number name lists ≡ None → test number (relay_lock_at name locks) ≡ false

-- each session has the names of the locks with which it has to do
abbrev pub AreNamed : RelayLocks → Sessions → Type 0
AreNamed locks sessions = AreListed concerns locks sessions

-- a session is owed nothing for a lock whose name it has without a mark
abbrev pub AreMarked : RelayLocks → Sessions → Type 0
AreMarked locks sessions = (session : ℕ) (name : List ℕ) → mark_at session name sessions ≡ Some false → owes_here session (relay_lock_at name locks) ≡ false

-- a session stands nowhere, is owed nothing, and waits for no answer
pub record IsGone (session : ℕ) (locks : RelayLocks) : Type 0 where
  pub stands : stands_at session locks ≡ false
  pub answers : answers_to session locks ≡ []
  pub notices : notices_to session locks ≡ []
  pub steals : open_steals session locks ≡ []
