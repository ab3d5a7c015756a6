-- How far a desk has come with its source for one lock, and what is due upward.
use Rattle.std.specs.Prelude.{ℕ, Bool, true, false, Option, Some, None, ◌==◌, ◌&&◌}
use Rattle.ovs_lock_desk.specs.declared.lock_state.NextAsk.{NextAsk}
use Rattle.ovs_lock_desk.specs.declared.lock_state.NextAsk.TheVariants as due
use Rattle.ovs_lock_desk.specs.declared.lock_state.LockState.{LockState}
use Rattle.ovs_lock_desk.specs.declared.lock_state.LockState.TheVariants.{Idle, Sent, Waiting, Held}
use Rattle.ovs_lock_desk.specs.declared.lock_state.LockEvent.{LockEvent}
use Rattle.ovs_lock_desk.specs.declared.lock_state.LockEvent.TheVariants as events
use Rattle.ovs_lock_desk.specs.declared.lock_state.LockReply.{LockReply}
use Rattle.ovs_lock_desk.specs.declared.lock_state.LockReply.TheVariants as replies
use Rattle.ovs_lock_desk.specs.declared.lock_state.LockVerb.{LockVerb}
use Rattle.ovs_lock_desk.specs.declared.lock_state.LockVerb.TheVariants as verbs

abbrev pub is_held : LockState → Bool
is_held (Idle d) = false
is_held (Sent n) = false
is_held Waiting = false
is_held Held = true

abbrev pub is_sent : ℕ → LockState → Bool
is_sent n (Idle d) = false
is_sent n (Sent m) = m == n
is_sent n Waiting = false
is_sent n Held = false

-- nothing is under way
abbrev pub is_still : LockState → Bool
is_still (Idle due.Nothing) = true
is_still (Idle due.Lock) = false
is_still (Idle due.Steal) = false
is_still (Idle due.Unlock) = false
is_still (Idle due.UnlockLock) = false
is_still (Idle due.UnlockSteal) = false
is_still (Sent n) = false
is_still Waiting = false
is_still Held = false

-- Lock is due, unless a Lock or a Steal is
abbrev pub lock_due : NextAsk → NextAsk
lock_due due.Nothing = due.Lock
lock_due due.Lock = due.Lock
lock_due due.Steal = due.Steal
lock_due due.Unlock = due.UnlockLock
lock_due due.UnlockLock = due.UnlockLock
lock_due due.UnlockSteal = due.UnlockSteal

-- Steal is due, in the place of Lock
abbrev pub steal_due : NextAsk → NextAsk
steal_due due.Nothing = due.Steal
steal_due due.Lock = due.Steal
steal_due due.Steal = due.Steal
steal_due due.Unlock = due.UnlockSteal
steal_due due.UnlockLock = due.UnlockSteal
steal_due due.UnlockSteal = due.UnlockSteal

-- a Lock that is due is dropped
abbrev pub no_lock_due : NextAsk → NextAsk
no_lock_due due.Nothing = due.Nothing
no_lock_due due.Lock = due.Nothing
no_lock_due due.Steal = due.Steal
no_lock_due due.Unlock = due.Unlock
no_lock_due due.UnlockLock = due.Unlock
no_lock_due due.UnlockSteal = due.UnlockSteal

-- a Steal that is due becomes Lock
abbrev pub as_lock_due : NextAsk → NextAsk
as_lock_due due.Nothing = due.Nothing
as_lock_due due.Lock = due.Lock
as_lock_due due.Steal = due.Lock
as_lock_due due.Unlock = due.Unlock
as_lock_due due.UnlockLock = due.UnlockLock
as_lock_due due.UnlockSteal = due.UnlockLock

abbrev pub state_locked : LockState → LockState
state_locked (Idle d) = Idle (lock_due d)
state_locked (Sent n) = Sent n
state_locked Waiting = Waiting
state_locked Held = Held

-- after a request that went up and isn't settled an Unlock goes first
abbrev pub state_stolen : LockState → LockState
state_stolen (Idle d) = Idle (steal_due d)
state_stolen (Sent n) = Idle due.UnlockSteal
state_stolen Waiting = Idle due.UnlockSteal
state_stolen Held = Held

abbrev pub state_given_up : LockState → LockState
state_given_up (Idle d) = Idle (no_lock_due d)
state_given_up (Sent n) = Idle due.Unlock
state_given_up Waiting = Idle due.Unlock
state_given_up Held = Idle due.Unlock

abbrev pub state_as_lock : LockState → LockState
state_as_lock (Idle d) = Idle (as_lock_due d)
state_as_lock (Sent n) = Sent n
state_as_lock Waiting = Waiting
state_as_lock Held = Held

-- nothing is asked for: nothing is under way, and at most an Unlock is due
abbrev pub asks_nothing : LockState → Bool
asks_nothing (Idle due.Nothing) = true
asks_nothing (Idle due.Lock) = false
asks_nothing (Idle due.Steal) = false
asks_nothing (Idle due.Unlock) = true
asks_nothing (Idle due.UnlockLock) = false
asks_nothing (Idle due.UnlockSteal) = false
asks_nothing (Sent n) = false
asks_nothing Waiting = false
asks_nothing Held = false

-- a Steal is due, be it after an Unlock
abbrev pub is_steal_due : LockState → Bool
is_steal_due (Idle due.Nothing) = false
is_steal_due (Idle due.Lock) = false
is_steal_due (Idle due.Steal) = true
is_steal_due (Idle due.Unlock) = false
is_steal_due (Idle due.UnlockLock) = false
is_steal_due (Idle due.UnlockSteal) = true
is_steal_due (Sent n) = false
is_steal_due Waiting = false
is_steal_due Held = false

-- ---- what goes up

-- the first of what is due
abbrev pub first_verb : NextAsk → Option LockVerb
first_verb due.Nothing = None
first_verb due.Lock = Some verbs.Lock
first_verb due.Steal = Some verbs.Steal
first_verb due.Unlock = Some verbs.Unlock
first_verb due.UnlockLock = Some verbs.Unlock
first_verb due.UnlockSteal = Some verbs.Unlock

-- what is due upward first
abbrev pub verb_due : LockState → Option LockVerb
verb_due (Idle d) = first_verb d
verb_due (Sent n) = None
verb_due Waiting = None
verb_due Held = None

-- the number of the request that isn't answered
abbrev pub open_number : LockState → Option ℕ
open_number (Idle d) = None
open_number (Sent n) = Some n
open_number Waiting = None
open_number Held = None

-- it went up under this number
abbrev pub due_sent : ℕ → NextAsk → LockState
due_sent n due.Nothing = Idle due.Nothing
due_sent n due.Lock = Sent n
due_sent n due.Steal = Sent n
due_sent n due.Unlock = Idle due.Nothing
due_sent n due.UnlockLock = Idle due.Lock
due_sent n due.UnlockSteal = Idle due.Steal

abbrev pub state_sent : ℕ → LockState → LockState
state_sent n (Idle d) = due_sent n d
state_sent n (Sent m) = Sent m
state_sent n Waiting = Waiting
state_sent n Held = Held

-- ---- the source gives the lock

abbrev pub waits : LockState → Bool
waits (Idle d) = false
waits (Sent n) = false
waits Waiting = true
waits Held = false

abbrev pub is_given : LockReply → Bool
is_given replies.Given = true
is_given replies.Waits = false
is_given replies.Refused = false

-- in its answer to the request that is under way, or by telling so while the desk waits
abbrev pub gives : LockEvent → LockState → Bool
gives (events.Answered n reply) c = is_given reply && is_sent n c
gives events.Granted c = waits c
gives (events.Unlocked session) c = false
gives (events.Sent n) c = false
gives events.Stolen c = false
gives events.Lost c = false
gives events.Found c = false
gives (events.Ended session) c = false
gives (events.AnswerTold session) c = false
gives (events.NoticeTold session) c = false
gives (events.AllTold session) c = false
