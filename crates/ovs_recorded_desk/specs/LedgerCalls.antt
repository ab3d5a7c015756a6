-- The steps of a relay's desk as calls on the requests that are passed on, and what holds of them.
use Rattle.std.specs.Prelude.{◌≡◌, ◌⊎◌, ◌+◌, ◌++◌, ⊤, ℕ, nat_lt, List, [], ◌∷◌, Bool, true, false, Option, Some, None, map}
use Rattle.std.specs.List.{AllByRecursion}
use Rattle.serde_json.specs.Data.{Data}
use Rattle.serde_json.specs.View.{view}
use Rattle.ovs_wire.specs.declared.message.Message.{Message}
use Rattle.ovs_authority.specs.Answers.{reply_of}
use Rattle.ovs_authority.specs.Asks.{lock_request, transact_request}
use Rattle.ovs_authority.specs.declared.ask.Verb.{Verb}
use Rattle.ovs_authority.specs.declared.ask.Verb.TheVariants as asks
use Rattle.ovs_locks.specs.declared.notice.LockNotice.{LockNotice}
use Rattle.ovs_lock_desk.specs.LockDesk.{RelayLocks}
use Rattle.ovs_lock_desk.specs.declared.lock_state.LockVerb.{LockVerb}
use Rattle.ovs_lock_desk.specs.declared.pending_steal.StealOutcome.{StealOutcome}
use Rattle.ovs_desk.specs.Asserts.{rewritten}
use Rattle.ovs_desk.specs.Calls.{Call, Sends, TakesUp, Replies, LosesSource, Collects, Ends}
use Rattle.ovs_desk.specs.Ledger as ledger
use Rattle.ovs_desk.specs.Ledger.{Ledger}
use Rattle.ovs_locks.specs.Notices.{message_of}
use Rattle.ovs_desk.specs.Relaying.{first_lock, late_answer, method_of, under_number}
use Rattle.ovs_desk.specs.Runs.{Runs, no_request, sent, taken_up, collected, numbers, RiseFrom, IsPartOf, EachOnce, AllGiveOwn, StaysAway, GivesNothing}
use Rattle.ovs_desk.specs.declared.forwarded.Forwarded.{Forwarded}
use Rattle.ovs_desk.specs.declared.source_message.SourceMessage.{SourceMessage}
use Rattle.ovs_desk.specs.declared.source_message.SourceMessage.TheVariants as says
use Rattle.ovs_desk.specs.declared.standing.StandingAnswer.{StandingAnswer}
use Rattle.ovs_recorded_desk.specs.Answering.{AllGiveClosed}
use Rattle.ovs_recorded_desk.specs.declared.step.DeskStep.{DeskStep}
use Rattle.ovs_recorded_desk.specs.declared.step.DeskStep.TheVariants as steps

-- ---- what is asked

-- the transaction is sent under a number, behind the database's name, with its asserts rewritten by what locks the desk had
pub record IsSent (database : List ℕ) (session : ℕ) (id : Data) (operations : List Data) (made : List Call) : Type 0 where
  pub number : ℕ
  pub locks : RelayLocks
  pub calls : made ≡ Sends session id (transact_request database (map (rewritten locks session) operations)) number ∷ []

-- a transaction is sent where it isn't replied to at once; nothing else is
abbrev pub IsAskedBy : List ℕ → ℕ → Data → Verb → Option Message → List Call → Type 0
IsAskedBy database session id (asks.Transact operations) None made = IsSent database session id (map view operations.items) made
IsAskedBy database session id (asks.Transact operations) (Some reply) made = made ≡ []
IsAskedBy database session id (asks.Lock name) reply made = made ≡ []
IsAskedBy database session id (asks.Steal name) reply made = made ≡ []
IsAskedBy database session id (asks.Unlock name) reply made = made ≡ []

-- ---- what is given to a session

-- the reply to a request that was passed on, with the call that gave it
pub record IsGivenReply (session : ℕ) (message : Option Message) (made : List Call) : Type 0 where
  pub request : Forwarded
  pub calls : made ≡ Collects session (Some request) ∷ []
  pub reply : message ≡ ledger.reply_of request

-- the late reply to a steal
pub record IsLateReply (message : Message) : Type 0 where
  pub outcome : Option StealOutcome
  pub id : Data
  pub is : message ≡ reply_of (late_answer outcome) id

-- a notice of a lock
pub record IsLockNotice (message : Message) : Type 0 where
  pub notice : LockNotice
  pub is : message ≡ message_of notice

-- nothing, or what the locks owe
abbrev pub IsGivenOfLocks : Option Message → Type 0
IsGivenOfLocks None = ⊤
IsGivenOfLocks (Some m) = IsLateReply m ⊎ IsLockNotice m

-- ---- what goes up

-- a request that was passed on, with the call that took it up
pub record IsTakenUp (message : Option Message) (made : List Call) : Type 0 where
  pub request : Forwarded
  pub calls : made ≡ TakesUp (Some request) ∷ []
  pub up : message ≡ ledger.message_of request

-- a request for a lock, under a number of such
pub record IsLockRequest (message : Message) : Type 0 where
  pub before : ℕ
  pub verb : LockVerb
  pub name : List ℕ
  pub is : message ≡ under_number (first_lock + before) (lock_request (method_of verb) name)

-- nothing, or what the locks ask for
abbrev pub IsUpOfLocks : Option Message → Type 0
IsUpOfLocks None = ⊤
IsUpOfLocks (Some m) = IsLockRequest m

-- ---- what is heard

-- the answer to a transaction is a reply to the request of its number; that to a request for a lock isn't
abbrev pub IsRepliedBy : Bool → ℕ → StandingAnswer → List Call → Type 0
IsRepliedBy true n answer made = made ≡ Replies n answer ∷ []
IsRepliedBy false n answer made = made ≡ []

-- the numbers of transactions are below those of requests for locks
abbrev pub IsHeardBy : SourceMessage → List Call → Type 0
IsHeardBy (says.ReplyFor n answer) made = IsRepliedBy (nat_lt n first_lock) n answer made
IsHeardBy (says.Locked name) made = made ≡ []
IsHeardBy (says.Stolen name) made = made ≡ []

-- ---- steps

-- a step as calls on the requests that are passed on: one, or none where it is of locks alone, gives nothing, or finds the source
abbrev pub IsMadeBy : List ℕ → DeskStep → List Call → Type 0
IsMadeBy database (steps.Asked session ask reply) made = IsAskedBy database session ask.id ask.verb reply made
IsMadeBy database (steps.Collected session message) made = IsGivenReply session message made ⊎ ((made ≡ []) × IsGivenOfLocks message)
IsMadeBy database (steps.Ended session) made = made ≡ Ends session ∷ []
IsMadeBy database (steps.WentUp message) made = IsTakenUp message made ⊎ ((made ≡ []) × IsUpOfLocks message)
IsMadeBy database (steps.Heard message result) made = IsHeardBy message made
IsMadeBy database steps.FoundSource made = made ≡ []
IsMadeBy database steps.LostSource made = made ≡ LosesSource ∷ []

-- all steps as calls, each as its own, in their order
abbrev pub AreMadeBy : List ℕ → List DeskStep → List Call → Type 0
AreMadeBy database [] made = made ≡ []
AreMadeBy database (s ∷ later) made =
    (here : List Call) × (rest : List Call) × (made ≡ here ++ rest) × IsMadeBy database s here × AreMadeBy database later rest

-- All that a desk did with the requests that were passed on, as calls on them. Their numbers rise. What goes up are requests as they
-- were sent, in that order, none twice. No request is answered twice, and what a session is given is the answer to a request of its own
-- under its own id: the first reply to its number after it was sent, or "source lost" where the source was lost before that. After a
-- session ended it is given nothing as long as it sends nothing.
pub record IsAccounted (database : List ℕ) (made : List DeskStep) : Type 0 where
  pub calls : List Call
  pub left : Ledger
  pub made_by : AreMadeBy database made calls
  pub run : Runs no_request calls left
  pub rising : RiseFrom 0 (numbers (sent calls))
  pub up : IsPartOf (taken_up calls) (sent calls)
  pub once : EachOnce (numbers (collected calls))
  pub own : AllGiveOwn [] calls
  pub answers : AllGiveClosed [] calls
  pub ended : (session : ℕ) (before after : List Call) → calls ≡ before ++ Ends session ∷ after
      → AllByRecursion (StaysAway session) after → AllByRecursion (GivesNothing session) after
