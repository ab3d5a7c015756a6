-- Steps of a source's desk, one after another, and what they make of it.
use Rattle.std.specs.Prelude.{◌≡◌, ◌≢◌, ◌⊎◌, ◌++◌, ⊤, ℕ, List, [], ◌∷◌, true, Option, Some, None, Ok, length, option_to_list, slice_get}
use Rattle.serde_json.specs.Data.{Data}
use Rattle.ovs_authority.specs.Answers.{reply_of}
use Rattle.ovs_authority.specs.Owing.{CollectsTo}
use Rattle.ovs_authority.specs.declared.response.Response.{Response}
use Rattle.ovs_authority.specs.declared.ask.Ask.{Ask}
use Rattle.ovs_authority.specs.declared.ask.Verb.{Verb}
use Rattle.ovs_authority.specs.declared.ask.Verb.TheVariants as verbs
use Rattle.ovs_links.specs.Store.{head_of}
use Rattle.ovs_links.specs.declared.link.Link.{Link}
use Rattle.ovs_locks.specs.Lock.{without}
use Rattle.ovs_locks.specs.LockTable.{AllBecome, KeepsSessions}
use Rattle.ovs_source.specs.Numbers.{number_of}
use Rattle.ovs_source.specs.Renewing.{RenewsTo}
use Rattle.ovs_source.specs.Replying.{RepliesTo, KeepsSource}
use Rattle.ovs_source.specs.SourceDesk.{SourceDeskValue, TakesLink, owing_of}
use Rattle.ovs_source.specs.Trimming.{renewing}
use Rattle.ovs_wire.specs.declared.message.Message.{Message}
use Rattle.ovs_recorded_source.specs.Waiting.{Waiting, Become, message_of, replies_at}
use Rattle.ovs_recorded_source.specs.declared.step.SourceStep.{SourceStep}
use Rattle.ovs_recorded_source.specs.declared.step.SourceStep.TheVariants as steps
use Rattle.ovs_recorded_source.specs.declared.waiting.WaitingReply.{WaitingReply}

-- a source's desk, and its replies that wait
pub record SourceState : Type 0 where
  pub desk : SourceDeskValue
  pub waiting : Waiting

-- no reply waits yet
abbrev pub begun : SourceDeskValue → SourceState
begun d = record { desk = d; waiting = [] }

-- ---- one step

abbrev pub IsTransaction : Verb → Type 0
IsTransaction (verbs.Transact operations) = ⊤
IsTransaction (verbs.Lock name) = ⊥
IsTransaction (verbs.Steal name) = ⊥
IsTransaction (verbs.Unlock name) = ⊥

-- the reply to a transaction waits behind those of its session, and stands at the head of the chain behind it; no other waits
abbrev pub Waits : ℕ → Data → Verb → Response → SourceState → SourceState → Type 0
Waits session id (verbs.Transact operations) a d e =
    Become d.waiting session (replies_at session d.waiting ++ record { answer = a; id = id; standing = head_of e.desk.source } ∷ []) e.waiting
Waits session id (verbs.Lock name) a d e = e.waiting ≡ d.waiting
Waits session id (verbs.Steal name) a d e = e.waiting ≡ d.waiting
Waits session id (verbs.Unlock name) a d e = e.waiting ≡ d.waiting

-- so what is given at once is the reply to any other request
abbrev pub immediate_reply_of : Verb → Message → Option Message
immediate_reply_of (verbs.Transact operations) reply = None
immediate_reply_of (verbs.Lock name) reply = Some reply
immediate_reply_of (verbs.Steal name) reply = Some reply
immediate_reply_of (verbs.Unlock name) reply = Some reply

-- a session asks, and the desk replies under the request's id
pub record Asks (session : ℕ) (ask : Ask) (d : SourceState) (reply : Message) (link : Option Link) (e : SourceState) : Type 0 where
  pub answer : Response
  pub reply_is : reply ≡ reply_of answer ask.id
  pub replies : RepliesTo d.desk session ask.verb answer e.desk
  pub made : e.desk.unpublished ≡ d.desk.unpublished ++ option_to_list link
  pub waits : Waits session ask.id ask.verb answer d e

-- the first reply that waits for a session is given
pub record Gives (session : ℕ) (d : SourceState) (reply : Message) (e : SourceState) : Type 0 where
  pub first : WaitingReply
  pub rest : List WaitingReply
  pub at : replies_at session d.waiting ≡ first ∷ rest
  pub left : Become d.waiting session rest e.waiting
  pub is : reply ≡ message_of first
  pub desk : e.desk ≡ d.desk

-- where none waits, a notice of a lock is given, if one is owed
pub record Collects (session : ℕ) (d : SourceState) (notice : Option Message) (e : SourceState) : Type 0 where
  pub none : replies_at session d.waiting ≡ []
  pub given : CollectsTo (owing_of d.desk.locks session) notice (owing_of e.desk.locks session)
  pub others : (other : ℕ) → other ≢ session → owing_of e.desk.locks other ≡ owing_of d.desk.locks other
  pub sessions : KeepsSessions d.desk.locks e.desk.locks
  pub source : KeepsSource d.desk e.desk
  pub waiting : e.waiting ≡ d.waiting

-- no reply waits for a session that ended, and it stands in the lists of no lock
pub record Ends (session : ℕ) (d e : SourceState) : Type 0 where
  pub none : Become d.waiting session [] e.waiting
  pub locks : AllBecome d.desk.locks (without session) e.desk.locks
  pub source : KeepsSource d.desk e.desk

-- a link is taken out
pub record Takes (d : SourceState) (link : Option Link) (e : SourceState) : Type 0 where
  pub taken : TakesLink d.desk link e.desk
  pub waiting : e.waiting ≡ d.waiting

-- an epoch that is due begins with this link
pub record Begins (d : SourceState) (link : Link) (e : SourceState) : Type 0 where
  pub renews : RenewsTo d.desk (Ok true) e.desk
  pub made : e.desk.unpublished ≡ d.desk.unpublished ++ link ∷ []
  pub waiting : e.waiting ≡ d.waiting

-- the step makes the second state of the first
abbrev pub Does : SourceStep → SourceState → SourceState → Type 0
Does (steps.Asked session ask reply link) d e = Asks session ask d reply link e
Does (steps.Given session reply) d e = Gives session d reply e
Does (steps.Collected session notice) d e = Collects session d notice e
Does (steps.Ended session) d e = Ends session d e
Does (steps.TookLink link) d e = Takes d link e
Does (steps.BeganEpoch link) d e = Begins d link e

-- ---- all steps

-- the steps, one after another, make the second state of the first
abbrev pub DoesAll : SourceState → List SourceStep → SourceState → Type 0
DoesAll d [] e = e ≡ d
DoesAll d (s ∷ later) e = (m : SourceState) × Does s d m × DoesAll m later e

-- these can be all steps of a desk that began so: some state is made by them
abbrev pub AreSteps : SourceDeskValue → List SourceStep → Type 0
AreSteps start made = (e : SourceState) × DoesAll (begun start) made e

-- all steps of a desk, and its state
pub record RecordedValue : Type 0 where
  pub steps : List SourceStep
  pub state : SourceState

-- one step, behind those that made the state of what the desk began with
pub record IsStep (start : SourceDeskValue) (step : SourceStep) (before after : RecordedValue) : Type 0 where
  pub made : DoesAll (begun start) before.steps before.state
  pub does : Does step before.state after.state
  pub recorded : after.steps ≡ before.steps ++ step ∷ []

-- the step stands last, behind those that were known and those that others made since
pub record EndsWith (step : SourceStep) (known now : List SourceStep) : Type 0 where
  pub others : List SourceStep
  pub all : now ≡ (known ++ others) ++ step ∷ []

-- the step is the last of a run of a desk that began so
pub record EndsRun (start : SourceDeskValue) (step : SourceStep) : Type 0 where
  pub earlier : List SourceStep
  pub run : AreSteps start (earlier ++ step ∷ [])

-- ---- what a call gave

-- of a request to which this was replied at once: some step with its reply is such
pub record IsAsked (P : SourceStep → Type 0) (session : ℕ) (ask : Ask) (given : Option Message) : Type 0 where
  pub reply : Message
  pub link : Option Link
  pub immediate_reply : given ≡ immediate_reply_of ask.verb reply
  pub is : P (steps.Asked session ask reply link)

-- of what was given to a session: the step that gave a reply is such, or the one that gave a notice
abbrev pub IsGiven : (SourceStep → Type 0) → ℕ → Option Message → Type 0
IsGiven P session None = P (steps.Collected session None)
IsGiven P session (Some m) = P (steps.Given session m) ⊎ P (steps.Collected session (Some m))

-- the link that was put behind these
abbrev pub link_behind : List Link → List Link → Option Link
link_behind old new = slice_get new (length old)

-- the link that an epoch begins with
abbrev pub first_link : SourceDeskValue → Link
first_link d = renewing d.source (number_of d.next)
