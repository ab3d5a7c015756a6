-- One lock at a relay's desk: who asked for it here, how far the desk has come with its source, and what each event makes of it.
use Rattle.std.specs.Prelude.{ℕ, Bool, true, false, not, List, [], ◌∷◌, ◌++◌, Option, Some, None, is_some, Result, Ok, Err, ◌≡◌, ◌&&◌, ◌||◌, if◌then◌else◌}
use Rattle.std.specs.List.{list_any}
use Rattle.serde_json.specs.Data.{Data}
use Rattle.ovs_locks.specs.declared.waiter.Waiter.{Waiter}
use Rattle.ovs_locks.specs.Lock.{LockValue, no_lock, is_in, stands, owner, appended, stolen_by, put_first, without, forgotten, granted_first, robbed_first, is_free, is_idle, after_one, after_telling}
use Rattle.ovs_lock_desk.specs.LockState.{is_held, is_sent, is_still, asks_nothing, is_steal_due, verb_due, state_locked, state_stolen, state_given_up, state_as_lock, state_sent}
use Rattle.ovs_lock_desk.specs.PendingSteal.{is_open, is_of, is_own_open, is_due_late, late_of, settled, without_one, without_due, without_late, open_session, is_empty_late}
use Rattle.ovs_lock_desk.specs.declared.lock_state.NextAsk.TheVariants as due
use Rattle.ovs_lock_desk.specs.declared.lock_state.LockState.{LockState}
use Rattle.ovs_lock_desk.specs.declared.lock_state.LockState.TheVariants.{Idle, Sent, Waiting, Held}
use Rattle.ovs_lock_desk.specs.declared.lock_state.LockEvent.{LockEvent}
use Rattle.ovs_lock_desk.specs.declared.lock_state.LockEvent.TheVariants as events
use Rattle.ovs_lock_desk.specs.declared.lock_state.LockReply.{LockReply}
use Rattle.ovs_lock_desk.specs.declared.lock_state.LockReply.TheVariants as replies
use Rattle.ovs_lock_desk.specs.declared.lock_state.LockVerb.{LockVerb}
use Rattle.ovs_lock_desk.specs.declared.lock_state.LockVerb.TheVariants as verbs
use Rattle.ovs_lock_desk.specs.declared.pending_steal.PendingSteal.{PendingSteal}
use Rattle.ovs_lock_desk.specs.declared.pending_steal.StealOutcome.{StealOutcome}
use Rattle.ovs_lock_desk.specs.declared.pending_steal.StealOutcome.TheVariants as outcomes
use Rattle.ovs_lock_desk.specs.declared.error.DeskError.{DeskError}
use Rattle.ovs_lock_desk.specs.declared.error.DeskError.TheVariants as errors

-- the two lists, the steals whose answer wasn't told, in order of asking, and how far the desk has come
pub record RelayLockValue : Type 0 where
  pub lock : LockValue
  pub late : List PendingSteal
  pub state : LockState

abbrev pub no_relay_lock : RelayLockValue
no_relay_lock = record { lock = no_lock; late = []; state = Idle due.Nothing }

-- a steal is asked for, and its answer isn't known yet
abbrev pub steal_open : RelayLockValue → Bool
steal_open l = list_any is_open l.late

abbrev pub own_steal_open : ℕ → RelayLockValue → Bool
own_steal_open session l = list_any (is_own_open session) l.late

-- ---- events

-- a session asks for the lock; `has_source`: there is a source
abbrev pub locked : Bool → ℕ → RelayLockValue → RelayLockValue
locked has_source session l = record { lock = appended session l.lock; late = l.late; state = if has_source then state_locked l.state else l.state }

-- a session steals the lock: from its owner, or before the others that ask for it here, and then the source is asked
abbrev pub stolen_here : ℕ → Data → RelayLockValue → RelayLockValue
stolen_here session id l =
    if is_held l.state then record { lock = stolen_by session l.lock; late = l.late; state = l.state }
    else record { lock = put_first session l.lock; late = l.late ++ late_of session id ∷ []; state = state_stolen l.state }

-- where nobody asks any more, the source is told so
abbrev pub given_up : LockValue → List PendingSteal → LockState → RelayLockValue
given_up lock late state = record { lock = lock; late = late; state = if is_free lock.queue then state_given_up state else state }

-- the lists once the session left them; the next one comes to own the lock only where the source gave it
abbrev pub left : ℕ → LockState → LockValue → LockValue
left session state lock = if is_held state then without session lock else forgotten session lock

-- a session leaves the lists
abbrev pub unlocked : ℕ → RelayLockValue → RelayLockValue
unlocked session l = given_up (left session l.state l.lock) l.late l.state

-- the lock is held: the steal that waits for it is answered, or the first of the queue is owed that it owns it
abbrev pub held : RelayLockValue → RelayLockValue
held l = record { lock = if steal_open l then l.lock else granted_first l.lock; late = settled outcomes.Won l.late; state = Held }

abbrev pub forgotten_by : Option ℕ → LockValue → LockValue
forgotten_by None lock = lock
forgotten_by (Some session) lock = forgotten session lock

-- the source has nothing of what was asked, and nothing is due: a steal that isn't answered is answered so, and its session leaves
abbrev pub steal_failed : StealOutcome → RelayLockValue → RelayLockValue
steal_failed outcome l = record { lock = forgotten_by (open_session l.late) l.lock; late = settled outcome l.late; state = Idle due.Nothing }

-- the source gave the lock, or another has it, or it refused
abbrev pub answered_so : LockReply → RelayLockValue → RelayLockValue
answered_so replies.Given l = held l
answered_so replies.Waits l = record { lock = l.lock; late = l.late; state = Waiting }
answered_so replies.Refused l = steal_failed outcomes.Refused l

-- the request of this number was answered
abbrev pub answered : ℕ → LockReply → RelayLockValue → RelayLockValue
answered n reply l = if is_sent n l.state then answered_so reply l else l

abbrev pub granted_in : LockState → RelayLockValue → RelayLockValue
granted_in (Idle d) l = l
granted_in (Sent n) l = l
granted_in Waiting l = held l
granted_in Held l = l

-- the source tells that the lock is held now
abbrev pub granted_at_source : RelayLockValue → RelayLockValue
granted_at_source l = granted_in l.state l

-- an Unlock is due, and then a Lock if somebody asks still
abbrev pub asked_again : LockValue → LockState
asked_again lock = Idle (if is_free lock.queue then due.Unlock else due.UnlockLock)

-- the source tells that the lock was stolen: its owner here is robbed, too
abbrev pub stolen_at_source : RelayLockValue → RelayLockValue
stolen_at_source l =
    if is_held l.state then record { lock = robbed_first l.lock; late = l.late; state = asked_again (robbed_first l.lock) } else l

-- the source is lost, and with it the lock: the owner is robbed
abbrev pub lost : RelayLockValue → RelayLockValue
lost l = steal_failed outcomes.SourceLost (record { lock = if is_held l.state then robbed_first l.lock else l.lock; late = l.late; state = l.state })

-- there is a source again
abbrev pub found : RelayLockValue → RelayLockValue
found l = record { lock = l.lock; late = l.late; state = if is_free l.lock.queue then l.state else Idle due.Lock }

-- a session ends: it is owed no answer, its Steal that is due becomes Lock, and it leaves the lists
abbrev pub ended : ℕ → RelayLockValue → RelayLockValue
ended session l = unlocked session (record {
  lock = l.lock;
  late = without_late session l.late;
  state = if own_steal_open session l then state_as_lock l.state else l.state;
})

-- what was due first went up under this number
abbrev pub sent : ℕ → RelayLockValue → RelayLockValue
sent n l = record { lock = l.lock; late = l.late; state = state_sent n l.state }

-- the first answer that a session is owed is told
abbrev pub answer_told : ℕ → RelayLockValue → RelayLockValue
answer_told session l = record { lock = l.lock; late = without_one (is_due_late session) l.late; state = l.state }

-- the first notice that a session is owed is told
abbrev pub notice_told : ℕ → RelayLockValue → RelayLockValue
notice_told session l = record { lock = after_one session l.lock; late = l.late; state = l.state }

-- the session is told all that it is owed
abbrev pub all_told : ℕ → RelayLockValue → RelayLockValue
all_told session l = record { lock = after_telling session l.lock; late = without_due session l.late; state = l.state }

-- what an event makes of a lock
abbrev pub step : LockEvent → RelayLockValue → RelayLockValue
step (events.Unlocked session) l = unlocked session l
step (events.Sent n) l = sent n l
step (events.Answered n reply) l = answered n reply l
step events.Granted l = granted_at_source l
step events.Stolen l = stolen_at_source l
step events.Lost l = lost l
step events.Found l = found l
step (events.Ended session) l = ended session l
step (events.AnswerTold session) l = answer_told session l
step (events.NoticeTold session) l = notice_told session l
step (events.AllTold session) l = all_told session l

-- ---- what the lock tells

-- a desk has an owner only where the source gave it the lock
abbrev pub desk_owner : RelayLockValue → Option ℕ
desk_owner l = if is_held l.state then owner l.lock else None

-- a session has to do with the lock: it stands in its lists, or a steal of its own wasn't told
abbrev pub concerns : ℕ → RelayLockValue → Bool
concerns session l = list_any (is_of session) l.late || stands session l.lock

-- nobody stands in it, nobody is owed an answer, and nothing is under way
abbrev pub is_desk_idle : RelayLockValue → Bool
is_desk_idle l = is_idle l.lock && (is_empty_late l.late && is_still l.state)

-- what a session's asking makes of the lock
abbrev pub asked_here : Bool → ℕ → LockVerb → Data → RelayLockValue → RelayLockValue
asked_here has_source session verbs.Lock id l = locked has_source session l
asked_here has_source session verbs.Steal id l = stolen_here session id l
asked_here has_source session verbs.Unlock id l = unlocked session l

-- the answer, where it is known at once
abbrev pub answer_here : LockVerb → RelayLockValue → Option Bool
answer_here verbs.Lock l = Some false
answer_here verbs.Steal l = if is_held l.state then Some true else None
answer_here verbs.Unlock l = Some true

-- why a session's asking is refused, want of memory aside; `has_source`: there is a source
abbrev pub refusal : Bool → LockVerb → ℕ → RelayLockValue → Option DeskError
refusal has_source verbs.Lock session l = if stands session l.lock then Some errors.AlreadyAsked else None
refusal has_source verbs.Steal session l =
    if stands session l.lock then Some errors.AlreadyAsked
    else if not has_source then Some errors.SourceLost
    else if steal_open l then Some errors.StealPending else None
refusal has_source verbs.Unlock session l =
    if not (stands session l.lock) then Some errors.NeverAsked
    else if own_steal_open session l then Some errors.StealPending else None

-- it is asked for, which takes memory
abbrev pub enters : LockVerb → Bool
enters verbs.Lock = true
enters verbs.Steal = true
enters verbs.Unlock = false

-- what asking answers, where this is why it is refused
abbrev pub AnswersBy : Option DeskError → LockVerb → RelayLockValue → Result (Option Bool) DeskError → Type 0
AnswersBy refused verb l (Ok answer) = (refused ≡ None) × (answer ≡ answer_here verb l)
AnswersBy refused verb l (Err errors.NoMemory) = (refused ≡ None) × (enters verb ≡ true)
AnswersBy refused verb l (Err errors.BadLock) = refused ≡ Some errors.BadLock
AnswersBy refused verb l (Err errors.AlreadyAsked) = refused ≡ Some errors.AlreadyAsked
AnswersBy refused verb l (Err errors.NeverAsked) = refused ≡ Some errors.NeverAsked
AnswersBy refused verb l (Err errors.SourceLost) = refused ≡ Some errors.SourceLost
AnswersBy refused verb l (Err errors.StealPending) = refused ≡ Some errors.StealPending
AnswersBy refused verb l (Err errors.TooMany) = refused ≡ Some errors.TooMany

-- ---- what holds of a lock at all times

-- something is due upward
abbrev pub is_due_up : RelayLockValue → Bool
is_due_up l = is_some (verb_due l.state)

-- a session whose steal isn't answered stands in this queue
abbrev pub stealer_in : List Waiter → List PendingSteal → Bool
stealer_in queue late = list_any (λ (e : PendingSteal). is_open e && is_in e.session queue) late

-- for a lock for which nobody asks nothing is asked of the source, and a Steal is due only for a session that asks still
pub record IsSettled (l : RelayLockValue) : Type 0 where
  pub free : is_free l.lock.queue ≡ true → asks_nothing l.state ≡ true
  pub steal : is_steal_due l.state ≡ true → stealer_in l.lock.queue l.late ≡ true

-- the steals that aren't answered are of one session
abbrev pub IsStolenByOne : RelayLockValue → Type 0
IsStolenByOne l = (session : ℕ) → own_steal_open session l ≡ true → open_session l.late ≡ Some session

-- what may happen to a lock before anything goes up for it: a session whose steal isn't answered doesn't unlock
abbrev pub MayHappen : LockEvent → RelayLockValue → Type 0
MayHappen (events.Unlocked session) l = own_steal_open session l ≡ false
MayHappen (events.Sent n) l = ⊥
MayHappen (events.Answered n reply) l = Unit {0}
MayHappen events.Granted l = Unit {0}
MayHappen events.Stolen l = Unit {0}
MayHappen events.Lost l = Unit {0}
MayHappen events.Found l = Unit {0}
MayHappen (events.Ended session) l = Unit {0}
MayHappen (events.AnswerTold session) l = Unit {0}
MayHappen (events.NoticeTold session) l = Unit {0}
MayHappen (events.AllTold session) l = Unit {0}
