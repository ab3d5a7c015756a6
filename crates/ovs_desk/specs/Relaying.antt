-- What each call makes of a relay's desk.
use Rattle.std.specs.Prelude.{◌≡◌, ◌≢◌, ◌&&◌, ◌||◌, not, nat_lt, is_some, ◌+◌, ◌^◌, ℕ, List, Bool, true, false, map, Option, Some, None, Result, Ok, Err, if◌then◌else◌, option_and_then, option_map, codes, slice_get, IsErr, ⊤}
use Rattle.serde_json.specs.Data.{Data, boolean, object, no_members}
use Rattle.serde_json.specs.Find.{get, as_bool, as_null}
use Rattle.serde_json.specs.View.{view}
use Rattle.ovs_json.specs.Putting.{under_name}
use Rattle.ovs_wire.specs.Named.{id_of_number}
use Rattle.ovs_wire.specs.declared.message.Message.{Message}
use Rattle.ovs_wire.specs.declared.message.Message.TheVariants as messages
use Rattle.ovs_authority.specs.Answers.{replied, refused, reply_of}
use Rattle.ovs_authority.specs.Asks.{lock_request, transact_request}
use Rattle.ovs_authority.specs.declared.response.Response.{Response}
use Rattle.ovs_authority.specs.declared.ask.Request.{Request}
use Rattle.ovs_authority.specs.declared.ask.Verb.{Verb}
use Rattle.ovs_authority.specs.declared.ask.Verb.TheVariants as asks
use Rattle.ovs_locks.specs.Lock.{name_told}
use Rattle.ovs_locks.specs.declared.notice.LockNotice.{LockNotice}
use Rattle.ovs_lock_desk.specs.RelayLock.{RelayLockValue, step, asked_here, enters, AnswersBy}
use Rattle.ovs_lock_desk.specs.LockDesk.{DeskValue, ChangesAt, SendsFirst, IsGone, stepped, relay_lock_at, refusal_at, first_due_up, is_sent_at, answers_to, notices_to}
use Rattle.ovs_lock_desk.specs.declared.lock_state.LockEvent.TheVariants as events
use Rattle.ovs_lock_desk.specs.declared.lock_state.LockReply.{LockReply}
use Rattle.ovs_lock_desk.specs.declared.lock_state.LockReply.TheVariants as replies
use Rattle.ovs_lock_desk.specs.declared.lock_state.LockVerb.{LockVerb}
use Rattle.ovs_lock_desk.specs.declared.lock_state.LockVerb.TheVariants as verbs
use Rattle.ovs_lock_desk.specs.declared.error.DeskError.{DeskError}
use Rattle.ovs_lock_desk.specs.declared.error.DeskError.TheVariants as errors
use Rattle.ovs_lock_desk.specs.declared.pending_steal.PendingSteal.{PendingSteal}
use Rattle.ovs_lock_desk.specs.declared.pending_steal.StealOutcome.{StealOutcome}
use Rattle.ovs_lock_desk.specs.declared.pending_steal.StealOutcome.TheVariants as outcomes
use Rattle.ovs_desk.specs.declared.error.BadReply.{BadReply}
use Rattle.ovs_desk.specs.declared.error.ForwardError.TheVariants as forwarding
use Rattle.ovs_desk.specs.declared.error.ForwardRefused.{ForwardRefused}
use Rattle.ovs_desk.specs.declared.standing.StandingAnswer.{StandingAnswer}
use Rattle.ovs_desk.specs.declared.source_message.SourceMessage.{SourceMessage}
use Rattle.ovs_desk.specs.declared.source_message.SourceMessage.TheVariants as says
use Rattle.ovs_desk.specs.Asserts.{rewritten}
use Rattle.ovs_desk.specs.Calls.{After, SendsTo}
use Rattle.ovs_desk.specs.Calls as calls
use Rattle.ovs_desk.specs.Ledger.{to_go, due_to, next_up, next_back}
use Rattle.ovs_locks.specs.Notices.{message_of}
use Rattle.ovs_desk.specs.RelayDesk.{RelayValue, with_forwards, with_locks}

-- the requests alone change, as by this call on them
abbrev pub ChangesRequests : calls.Call → RelayValue → RelayValue → Type 0
ChangesRequests call d e = After call d.forwards.ledger e.forwards.ledger × (e ≡ with_forwards d e.forwards)

-- the lock of this name alone changes
abbrev pub ChangesLock : List ℕ → (RelayLockValue → RelayLockValue) → RelayValue → RelayValue → Type 0
ChangesLock name f d e =
    ChangesAt name f d.locks.locks e.locks.locks × (e.locks.has_source ≡ d.locks.has_source) × (e ≡ with_locks d e.locks)

-- ---- asking for locks

-- {"locked": BOOL}
abbrev pub locked_reply : Bool → Response
locked_reply won = replied (under_name (codes "locked") (boolean won))

-- the answer that is known at once
abbrev pub immediate_reply : LockVerb → Response
immediate_reply verbs.Lock = locked_reply false
immediate_reply verbs.Steal = locked_reply true
immediate_reply verbs.Unlock = replied (object no_members)

abbrev pub text_of : DeskError → Option (List ℕ)
text_of errors.BadLock = Some (codes "bad lock")
text_of errors.AlreadyAsked = Some (codes "already asked")
text_of errors.NeverAsked = Some (codes "never asked")
text_of errors.SourceLost = Some (codes "source lost")
text_of errors.StealPending = Some (codes "steal pending")
text_of errors.TooMany = Some (codes "too many requests")
text_of errors.NoMemory = None

abbrev pub IsRefusedBy : Option (List ℕ) → Response → Type 0
IsRefusedBy None a = ⊥
IsRefusedBy (Some text) a = a ≡ refused text

-- the answer that tells this refusal; want of memory is none
abbrev pub IsRefusalOf : DeskError → Response → Type 0
IsRefusalOf error a = IsRefusedBy (text_of error) a

-- what is answered where this came of asking: an answer at once, one that comes later, or a refusal
abbrev pub IsAnsweredBy : LockVerb → Result (Option Bool) DeskError → Option Response → Type 0
IsAnsweredBy verb (Ok (Some won)) a = a ≡ Some (immediate_reply verb)
IsAnsweredBy verb (Ok None) a = a ≡ None
IsAnsweredBy verb (Err error) None = ⊥
IsAnsweredBy verb (Err error) (Some a) = IsRefusalOf error a

abbrev pub LocksAfter : Result (Option Bool) DeskError → ℕ → LockVerb → List ℕ → Data → DeskValue → DeskValue → Type 0
LocksAfter (Ok answer) session verb name id d e = ChangesAt name (asked_here d.has_source session verb id) d.locks e.locks × (e.has_source ≡ d.has_source)
LocksAfter (Err error) session verb name id d e = e ≡ d

-- a session asks for a lock, or leaves it
pub record AsksForLock (session : ℕ) (verb : LockVerb) (name : List ℕ) (id : Data) (d : RelayValue) (a : Option Response) (e : RelayValue) : Type 0 where
  pub came : Result (Option Bool) DeskError
  pub answers : AnswersBy (refusal_at d.locks.has_source verb session name d.locks.locks) verb (relay_lock_at name d.locks.locks) came
  pub told : IsAnsweredBy verb came a
  pub after : LocksAfter came session verb name id d.locks e.locks
  pub rest : e ≡ with_locks d e.locks

-- the same, with the answer as the reply to the request
pub record AsksByName (session : ℕ) (verb : LockVerb) (name : List ℕ) (id : Data) (d : RelayValue) (r : Option Message) (e : RelayValue) : Type 0 where
  pub answer : Option Response
  pub reply : r ≡ option_map (λ a. reply_of a id) answer
  pub asks : AsksForLock session verb name id d answer e

-- whether asking for a lock, or leaving it, takes memory: an Unlock that isn't refused takes none
abbrev pub lock_takes_memory : ℕ → LockVerb → List ℕ → DeskValue → Bool
lock_takes_memory session verb name l = enters verb || is_some (refusal_at l.has_source verb session name l.locks)

-- ---- transactions

-- what is answered where this came of sending: nothing yet, or that too many requests wait; want of memory is no answer
abbrev pub IsSendReply : Result ℕ ForwardRefused → Option Message → Type 0
IsSendReply (Ok n) r = r ≡ None
IsSendReply (Err u) r = (r ≡ Some (reply_of (refused (codes "too many requests")) u.id)) × (u.error ≢ forwarding.NoMemory)

-- a transaction is sent behind the database's name, its asserts rewritten, or refused
pub record Transacts (session : ℕ) (operations : List Data) (id : Data) (d : RelayValue) (r : Option Message) (e : RelayValue) : Type 0 where
  pub came : Result ℕ ForwardRefused
  pub sends : SendsTo d.forwards session id (transact_request d.database (map (rewritten d.locks.locks session) operations)) came e.forwards
  pub told : IsSendReply came r
  pub rest : e ≡ with_forwards d e.forwards

-- what a session asks: a transaction is passed on, and a lock asked for at the desk
abbrev pub Asks : ℕ → Data → Verb → RelayValue → Option Message → RelayValue → Type 0
Asks session id (asks.Transact operations) d r e = Transacts session (map view operations.items) id d r e
Asks session id (asks.Lock name) d r e = AsksByName session verbs.Lock name id d r e
Asks session id (asks.Steal name) d r e = AsksByName session verbs.Steal name id d r e
Asks session id (asks.Unlock name) d r e = AsksByName session verbs.Unlock name id d r e

-- whether what a session asks takes memory: all but an Unlock that isn't refused
abbrev pub takes_memory : ℕ → Verb → DeskValue → Bool
takes_memory session (asks.Transact operations) l = true
takes_memory session (asks.Lock name) l = true
takes_memory session (asks.Steal name) l = true
takes_memory session (asks.Unlock name) l = lock_takes_memory session verbs.Unlock name l

-- ---- upward

-- lock requests have the numbers from here on
abbrev pub first_lock : ℕ
first_lock = 2 ^ 62

abbrev pub method_of : LockVerb → List ℕ
method_of verbs.Lock = codes "lock"
method_of verbs.Steal = codes "steal"
method_of verbs.Unlock = codes "unlock"

-- a request as a message under a number
abbrev pub under_number : ℕ → Request → Message
under_number n request = messages.Request request.method request.params (id_of_number n)

-- what is due first of the least lock goes up under the next number
abbrev pub TakesUpDue : Option (List ℕ × LockVerb) → RelayValue → Option Message → RelayValue → Type 0
TakesUpDue None d m e = (m ≡ None) × (e ≡ d)
TakesUpDue (Some due) d m e =
    (m ≡ Some (under_number (first_lock + d.asked) (lock_request (method_of due.1) due.0)))
    × SendsFirst (first_lock + d.asked) d.locks.locks e.locks.locks
    × (e ≡ record { database = d.database; forwards = d.forwards; locks = record { has_source = d.locks.has_source; locks = e.locks.locks }; asked = d.asked + 1 })

-- after 2 ^ 62 lock requests none goes up
abbrev pub TakesUpBelow : Bool → RelayValue → Option Message → RelayValue → Type 0
TakesUpBelow true d m e = TakesUpDue (first_due_up d.locks.locks) d m e
TakesUpBelow false d m e = (m ≡ None) × (e ≡ d)

abbrev pub TakesUpLock : RelayValue → Option Message → RelayValue → Type 0
TakesUpLock d m e = TakesUpBelow (nat_lt d.asked first_lock) d m e

abbrev pub TakesUpFirst : Option Message → RelayValue → Option Message → RelayValue → Type 0
TakesUpFirst None d m e = TakesUpLock d m e
TakesUpFirst (Some up) d m e = (m ≡ Some up) × ChangesRequests (calls.TakesUp (to_go d.forwards.ledger)) d e

abbrev pub TakesUpWhere : Bool → RelayValue → Option Message → RelayValue → Type 0
TakesUpWhere true d m e = TakesUpFirst (next_up d.forwards.ledger) d m e
TakesUpWhere false d m e = (m ≡ None) × (e ≡ d)

-- transactions go before lock requests, and nothing goes up while there is no source
abbrev pub TakesUp : RelayValue → Option Message → RelayValue → Type 0
TakesUp d m e = TakesUpWhere d.locks.has_source d m e

-- whether a lock request is next to go up, which is written then; a transaction goes up as it was sent
abbrev pub is_lock_next : RelayValue → Bool
is_lock_next d = d.locks.has_source && not (is_some (next_up d.forwards.ledger)) && nat_lt d.asked first_lock && is_some (first_due_up d.locks.locks)

-- ---- what the source says

abbrev pub given_so : Bool → LockReply
given_so true = replies.Given
given_so false = replies.Waits

-- what the source answered to a Lock or a Steal: {"locked": BOOL}, or an error, with which it refused
abbrev pub lock_reply : Response → Option LockReply
lock_reply a = if is_some (as_null a.error) then option_map given_so (option_and_then as_bool (get (codes "locked") a.result)) else Some replies.Refused

-- the reply to a Lock or a Steal that is open
abbrev pub HearsLockReply : Option LockReply → ℕ → RelayValue → Result ⊤ BadReply → RelayValue → Type 0
HearsLockReply None n d r e = IsErr r × (e ≡ d)
HearsLockReply (Some reply) n d r e =
    (r ≡ Ok tt) × (e ≡ with_locks d (record { has_source = d.locks.has_source; locks = stepped (events.Answered n reply) d.locks.locks }))

-- the reply to a lock request; one to a request that isn't open is ignored
abbrev pub HearsOfLock : Bool → ℕ → Response → RelayValue → Result ⊤ BadReply → RelayValue → Type 0
HearsOfLock false n a d r e = (r ≡ Ok tt) × (e ≡ d)
HearsOfLock true n a d r e = HearsLockReply (lock_reply a) n d r e

abbrev pub HearsBy : Bool → ℕ → StandingAnswer → RelayValue → Result ⊤ BadReply → RelayValue → Type 0
HearsBy true n a d r e = (r ≡ Ok tt) × ChangesRequests (calls.Replies n a) d e
HearsBy false n a d r e = HearsOfLock (is_sent_at n d.locks.locks) n a.answer d r e

-- a request was answered: a transaction, or by its number a lock request
abbrev pub HearsReply : ℕ → StandingAnswer → RelayValue → Result ⊤ BadReply → RelayValue → Type 0
HearsReply n a d r e = HearsBy (nat_lt n first_lock) n a d r e

-- what the source says
abbrev pub Hears : SourceMessage → RelayValue → Result ⊤ BadReply → RelayValue → Type 0
Hears (says.ReplyFor n a) d r e = HearsReply n a d r e
Hears (says.Locked name) d r e = (r ≡ Ok tt) × ChangesLock name (step events.Granted) d e
Hears (says.Stolen name) d r e = (r ≡ Ok tt) × ChangesLock name (step events.Stolen) d e

-- each open request is answered that the source was lost
pub record LosesSource (d e : RelayValue) : Type 0 where
  pub requests : After calls.LosesSource d.forwards.ledger e.forwards.ledger
  pub locks : e.locks ≡ record { has_source = false; locks = stepped events.Lost d.locks.locks }
  pub rest : e ≡ record { database = d.database; forwards = e.forwards; locks = e.locks; asked = d.asked }

-- the locks are asked for again, where there was none
pub record FindsSource (d e : RelayValue) : Type 0 where
  pub locks : e.locks ≡ record { has_source = true; locks = if d.locks.has_source then d.locks.locks else stepped events.Found d.locks.locks }
  pub rest : e ≡ with_locks d e.locks

-- ---- what is collected

-- the first answer to a session's request that was passed on
abbrev pub CollectsSent : ℕ → RelayValue → Option Message → RelayValue → Type 0
CollectsSent session d m e = (m ≡ next_back session d.forwards.ledger) × ChangesRequests (calls.Collects session (due_to session d.forwards.ledger)) d e

-- a steal that was answered late: {"locked": true}, or that the source was lost or refused it
abbrev pub late_answer : Option StealOutcome → Response
late_answer None = refused (codes "source lost")
late_answer (Some outcomes.Won) = locked_reply true
late_answer (Some outcomes.SourceLost) = refused (codes "source lost")
late_answer (Some outcomes.Refused) = refused (codes "too many requests")

abbrev pub GivesLate : Option (List ℕ × PendingSteal) → ℕ → RelayValue → Option Message → RelayValue → Type 0
GivesLate None session d m e = (m ≡ None) × (e ≡ d)
GivesLate (Some a) session d m e = (m ≡ Some (reply_of (late_answer a.1.outcome) a.1.id)) × ChangesLock a.0 (step (events.AnswerTold session)) d e

-- the first late answer that a session is owed
abbrev pub CollectsLate : ℕ → RelayValue → Option Message → RelayValue → Type 0
CollectsLate session d m e = GivesLate (slice_get (answers_to session d.locks.locks) 0) session d m e

abbrev pub GivesNotice : Option LockNotice → ℕ → RelayValue → Option Message → RelayValue → Type 0
GivesNotice None session d m e = (m ≡ None) × (e ≡ d)
GivesNotice (Some n) session d m e = (m ≡ Some (message_of n)) × ChangesLock (name_told n) (step (events.NoticeTold session)) d e

-- the first notice that a session is owed
abbrev pub CollectsNotice : ℕ → RelayValue → Option Message → RelayValue → Type 0
CollectsNotice session d m e = GivesNotice (slice_get (notices_to session d.locks.locks) 0) session d m e

abbrev pub CollectsOfLock : Option (List ℕ × PendingSteal) → ℕ → RelayValue → Option Message → RelayValue → Type 0
CollectsOfLock None session d m e = CollectsNotice session d m e
CollectsOfLock (Some late) session d m e = CollectsLate session d m e

abbrev pub CollectsFirst : Option Message → ℕ → RelayValue → Option Message → RelayValue → Type 0
CollectsFirst None session d m e = CollectsOfLock (slice_get (answers_to session d.locks.locks) 0) session d m e
CollectsFirst (Some reply) session d m e = CollectsSent session d m e

-- what is given to a session: an answer to what was passed on before one that comes late, and both before a notice
abbrev pub Collects : ℕ → RelayValue → Option Message → RelayValue → Type 0
Collects session d m e = CollectsFirst (next_back session d.forwards.ledger) session d m e

-- a session ends
pub record EndsSession (session : ℕ) (d e : RelayValue) : Type 0 where
  pub requests : After (calls.Ends session) d.forwards.ledger e.forwards.ledger
  pub locks : e.locks ≡ record { has_source = d.locks.has_source; locks = stepped (events.Ended session) d.locks.locks }
  pub gone : IsGone session e.locks.locks
  pub rest : e ≡ record { database = d.database; forwards = e.forwards; locks = e.locks; asked = d.asked }
