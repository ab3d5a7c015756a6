-- What is known of a session with an upstream, and what it makes of what it reads.
use Rattle.std.specs.Prelude.{◌≡◌, ◌⊎◌, ◌++◌, ℕ, List, [], ◌∷◌, Bool, true, false, Option, None, Ok, Err, map, refl}
use Rattle.std.specs.Coded.{Coded, code_by, coded×, coded_bool, coded_list, coded_option}
use Rattle.std.specs.Option.{option_to_list}
use Rattle.ovs_links.specs.contracts.link.Link as link_row
use Rattle.ovs_links.specs.declared.link.Link.{Link}
use Rattle.ovs_session.specs.Messages.{SaysNothing}
use Rattle.ovs_wire.specs.Message.{Says, IsWritten}
use Rattle.ovs_wire.specs.contracts.message.Message as message_row
use Rattle.ovs_wire.specs.declared.message.Message.{Message}
use Rattle.ovs_desk.specs.declared.source_message.SourceMessage.{SourceMessage}
use Rattle.ovs_desk.specs.declared.source_message.SourceMessage.TheVariants as said
use Rattle.ovs_upstream.specs.Hearing.{hears, links_in, at_stage}
use Rattle.ovs_upstream.specs.Requests.{schema_request}
use Rattle.ovs_upstream.specs.contracts.up_session.UpSession as up_row
use Rattle.ovs_upstream.specs.declared.error.UpError.{UpError}
use Rattle.ovs_upstream.specs.declared.up_event.UpEvent.{UpEvent}
use Rattle.ovs_upstream.specs.declared.up_event.UpEvent.TheVariants.{Links, Send, ReplyFor, Locked, Stolen, Nothing}
use Rattle.ovs_upstream.specs.declared.up_session.Heard.{Heard}
use Rattle.ovs_upstream.specs.declared.up_session.SyncState.{SyncState}
use Rattle.ovs_upstream.specs.declared.up_session.SyncState.TheVariants.{Opening, Asking, At, Ended}
use Rattle.ovs_upstream.specs.declared.up_session.UpSession.{UpSession}
use Rattle.ovs_follow.specs.contracts.handler_call.HandlerCall as call_row
use Rattle.ovs_follow.specs.declared.handler_call.HandlerCall.{HandlerCall}
use Rattle.ovs_follow.specs.declared.handler_call.HandlerCall.TheVariants as calls

-- what is known of a session
pub record UpstreamStateValue : Type 0 where
  -- how far it has come
  pub up : UpSession
  -- the first request was said
  pub has_begun : Bool
  -- the links that its sink was sent, in order
  pub sent : List Link
  -- the request that was taken up and isn't said yet
  pub waiting : Option Message
  -- its calls of the handler, in order
  pub made : List HandlerCall

-- it is stored as the tuple of its fields
abbrev pub following_code : Coded UpstreamStateValue
following_code =
    code_by (UpSession × (Bool × (List Link × (Option Message × List HandlerCall))))
    (coded× up_row.the_row.coded (coded× coded_bool (coded× (coded_list link_row.the_row.coded)
    (coded× (coded_option message_row.the_row.coded) (coded_list call_row.the_row.coded)))))
    (λ f. (f.up, (f.has_begun, (f.sent, (f.waiting, f.made)))))
    (λ p. record { up = p.0; has_begun = p.1.0; sent = p.1.1.0; waiting = p.1.1.1.0; made = p.1.1.1.1 }) (λ _. refl)

-- a new one, to whose sink these links were sent before
abbrev pub begun : UpSession → List Link → UpstreamStateValue
begun up sent = record { up = up; has_begun = false; sent = sent; waiting = None; made = [] }

-- ---- what is heard

-- the text says a message that comes to this
pub record IsHeard (up : UpSession) (text : List ℕ) (heard : Heard) : Type 0 where
  pub message : Message
  pub says : Says text message
  pub hears : hears up message ≡ Ok heard

-- the text says no message, or one that the session refuses
abbrev pub IsUnheard : UpSession → List ℕ → Type 0
IsUnheard up text = SaysNothing text ⊎ ((m : Message) × Says text m × ((e : UpError) × (hears up m ≡ Err e)))

-- the message that is to be sent back is written, and else nothing
abbrev pub IsSaid : UpEvent → List ℕ → Type 0
IsSaid (Send m) said = IsWritten m said
IsSaid (Links ls) said = said ≡ []
IsSaid (ReplyFor number answer) said = said ≡ []
IsSaid (Locked name) said = said ≡ []
IsSaid (Stolen name) said = said ≡ []
IsSaid Nothing said = said ≡ []

-- where an answer stands that is heard at this stage
abbrev pub standing_at : SyncState → ℕ
standing_at (At id) = id
standing_at Opening = 0
standing_at Asking = 0
standing_at Ended = 0

-- what the source said is told its handler, an answer with where it stands, and else nothing
abbrev pub handed : SyncState → UpEvent → List HandlerCall
handed stage (ReplyFor number a) = calls.Heard (said.ReplyFor number (record { answer = a; standing = standing_at stage })) ∷ []
handed stage (Locked name) = calls.Heard (said.Locked name) ∷ []
handed stage (Stolen name) = calls.Heard (said.Stolen name) ∷ []
handed stage (Send m) = []
handed stage (Links ls) = []
handed stage Nothing = []

-- from where links join up that come from here on: from the id before the first that came of this, or else from where it leads
abbrev pub from_links : List Link → ℕ → ℕ
from_links [] id = id
from_links (l ∷ ls) id = l.prev

abbrev pub begins_at : Heard → ℕ
begins_at heard = from_links (links_in heard.event) (standing_at heard.stage)

-- the handler is told that this is found, and from where the links of the session join up, where the answer to the monitor came
abbrev pub found : SyncState → SyncState → ℕ → List HandlerCall
found Asking (At id) from = calls.Found from ∷ []
found before after from = []

-- The text says a message: its links are sent, what is to be sent back is said, what the source says is told its handler, and the session is
-- where it leads.
pub record Hears (old : UpstreamStateValue) (text said : List ℕ) (new : UpstreamStateValue) : Type 0 where
  pub heard : Heard
  pub is_heard : IsHeard old.up text heard
  pub is_said : IsSaid heard.event said
  pub after : new ≡ record {
    up = at_stage old.up heard.stage;
    has_begun = old.has_begun;
    sent = old.sent ++ links_in heard.event;
    waiting = old.waiting;
    made = old.made ++ (handed old.up.stage heard.event ++ found old.up.stage heard.stage (begins_at heard));
  }

-- its handler may refuse what this tells it
abbrev pub IsRefused : (SourceMessage → Type 0) → List HandlerCall → Type 0
IsRefused refuses [] = ⊥
IsRefused refuses (calls.Heard message ∷ more) = refuses message
IsRefused refuses (calls.TookUp message ∷ more) = ⊥
IsRefused refuses (calls.Found from ∷ more) = ⊥

-- the text says no message, or one that the session refuses, or what the source may not say
abbrev pub Refuses : (SourceMessage → Type 0) → UpstreamStateValue → List ℕ → Type 0
Refuses refuses f text = IsUnheard f.up text ⊎ ((h : Heard) × IsHeard f.up text h × IsRefused refuses (handed f.up.stage h.event))

-- ---- what is asked

-- these messages are written, one after another
abbrev pub AreWritten : List Message → List ℕ → Type 0
AreWritten [] said = said ≡ []
AreWritten (m ∷ ms) said = (first more : List ℕ) × IsWritten m first × AreWritten ms more × (said ≡ first ++ more)

-- the requests that were taken up
abbrev pub taken : List HandlerCall → List Message
taken [] = []
taken (calls.TookUp m ∷ more) = option_to_list m ++ taken more
taken (calls.Heard message ∷ more) = taken more
taken (calls.Found from ∷ more) = taken more

-- Requests were taken up, one after another: the one that waited and these are said, each once and in order, but for the last, which may
-- wait. Nothing else was done with the handler.
pub record PassesOn (old_waiting : Option Message) (old_made : List HandlerCall) (said : List ℕ) (waiting : Option Message) (made : List HandlerCall) : Type 0 where
  pub ups : List (Option Message)
  pub called : made ≡ old_made ++ map calls.TookUp ups
  pub requests : List Message
  pub texts : AreWritten requests said
  pub each : option_to_list old_waiting ++ taken (map calls.TookUp ups) ≡ requests ++ option_to_list waiting

-- where the session stands at an id, requests are passed on; before, nothing is said
abbrev pub Passes : SyncState → UpstreamStateValue → List ℕ → UpstreamStateValue → Type 0
Passes (At id) old said new = PassesOn old.waiting old.made said new.waiting new.made
    × (new ≡ record old { waiting = new.waiting; made = new.made })
Passes Opening old said new = (said ≡ []) × (new ≡ old)
Passes Asking old said new = (said ≡ []) × (new ≡ old)
Passes Ended old said new = (said ≡ []) × (new ≡ old)

abbrev pub AsksBy : Bool → UpstreamStateValue → List ℕ → UpstreamStateValue → Type 0
AsksBy false old said new = IsWritten (schema_request old.up.schema) said × (new ≡ record old { has_begun = true })
AsksBy true old said new = Passes old.up.stage old said new

-- the first request is said once, and from the answer to the monitor on what is passed on
abbrev pub Asks : UpstreamStateValue → List ℕ → UpstreamStateValue → Type 0
Asks old said new = AsksBy old.has_begun old said new

-- the last call of the handler gave no request to go up, and none waits
pub record IsAllPassedOn (f : UpstreamStateValue) : Type 0 where
  pub waiting : f.waiting ≡ None
  pub before : List HandlerCall
  pub last : f.made ≡ before ++ calls.TookUp None ∷ []

-- where the session stands at an id, all is passed on
abbrev pub IsAllTo : SyncState → UpstreamStateValue → Type 0
IsAllTo (At id) f = IsAllPassedOn f
IsAllTo Opening f = Unit {0}
IsAllTo Asking f = Unit {0}
IsAllTo Ended f = Unit {0}

-- the first request was said, and what may go up by now is passed on
abbrev pub IsAllTold : UpstreamStateValue → Type 0
IsAllTold f = (f.has_begun ≡ true) × IsAllTo f.up.stage f
