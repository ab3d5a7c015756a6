-- What holds of every list of steps of a source's desk.
use Rattle.std.specs.Prelude.{◌≡◌, ◌≢◌, ◌⊎◌, ◌++◌, ◌==◌, ⊤, ℕ, List, [], ◌∷◌, map, Option, Some, None, option_to_list, if◌then◌else◌}
use Rattle.std.specs.List.{AllByRecursion, flat_map}
use Rattle.serde_json.specs.Data.{Data}
use Rattle.ovs_authority.specs.Answers.{reply_of}
use Rattle.ovs_authority.specs.declared.response.Response.{Response}
use Rattle.ovs_authority.specs.declared.ask.Verb.{Verb}
use Rattle.ovs_authority.specs.declared.ask.Verb.TheVariants as verbs
use Rattle.ovs_links.specs.declared.link.Link.{Link}
use Rattle.ovs_source.specs.SourceDesk.{SourceDeskValue}
use Rattle.ovs_wire.specs.declared.message.Message.{Message}
use Rattle.ovs_wire.specs.declared.message.Message.TheVariants.{Request, Reply, Notice}
use Rattle.ovs_recorded_source.specs.Steps.{SourceState}
use Rattle.ovs_recorded_source.specs.Waiting.{message_of, replies_at}
use Rattle.ovs_recorded_source.specs.declared.step.SourceStep.{SourceStep}
use Rattle.ovs_recorded_source.specs.declared.step.SourceStep.TheVariants as steps

-- ---- what is said

-- a reply to the request of this id
pub record IsReplyTo (id : Data) (m : Message) : Type 0 where
  pub answer : Response
  pub is : m ≡ reply_of answer id

-- nothing, or a notification
abbrev pub IsNotice : Option Message → Type 0
IsNotice None = ⊤
IsNotice (Some (Notice method params)) = ⊤
IsNotice (Some (Reply result error id)) = ⊥
IsNotice (Some (Request method params id)) = ⊥

-- a request is replied to under its own id, and what a session is given for which no reply waits is no reply
abbrev pub IsSaid : SourceStep → Type 0
IsSaid (steps.Asked session ask reply link) = IsReplyTo ask.id reply
IsSaid (steps.Given session reply) = ⊤
IsSaid (steps.Collected session notice) = IsNotice notice
IsSaid (steps.Ended session) = ⊤
IsSaid (steps.TookLink link) = ⊤
IsSaid (steps.BeganEpoch link) = ⊤

-- ---- the replies to transactions

abbrev pub if_transaction : Verb → Message → List Message
if_transaction (verbs.Transact operations) reply = reply ∷ []
if_transaction (verbs.Lock name) reply = []
if_transaction (verbs.Steal name) reply = []
if_transaction (verbs.Unlock name) reply = []

-- the reply that the desk made to a transaction of this session
abbrev pub made_for : ℕ → SourceStep → List Message
made_for session (steps.Asked asker ask reply link) = if asker == session then if_transaction ask.verb reply else []
made_for session (steps.Given other reply) = []
made_for session (steps.Collected other notice) = []
made_for session (steps.Ended other) = []
made_for session (steps.TookLink link) = []
made_for session (steps.BeganEpoch link) = []

-- the reply that was given to this session
abbrev pub given_to : ℕ → SourceStep → List Message
given_to session (steps.Asked asker ask reply link) = []
given_to session (steps.Given other reply) = if other == session then reply ∷ [] else []
given_to session (steps.Collected other notice) = []
given_to session (steps.Ended other) = []
given_to session (steps.TookLink link) = []
given_to session (steps.BeganEpoch link) = []

-- the step isn't the end of this session
abbrev pub GoesOn : ℕ → SourceStep → Type 0
GoesOn session (steps.Asked asker ask reply link) = ⊤
GoesOn session (steps.Given other reply) = ⊤
GoesOn session (steps.Collected other notice) = ⊤
GoesOn session (steps.Ended other) = other ≢ session
GoesOn session (steps.TookLink link) = ⊤
GoesOn session (steps.BeganEpoch link) = ⊤

-- no step, or the last is the end of this session
abbrev pub IsOver : ℕ → List SourceStep → Type 0
IsOver session made = (made ≡ []) ⊎ ((earlier : List SourceStep) × (made ≡ earlier ++ steps.Ended session ∷ []))

-- these are the last of the steps: those since the session's last end, or all
pub record IsSinceEnd (session : ℕ) (made since : List SourceStep) : Type 0 where
  pub before : List SourceStep
  pub all : made ≡ before ++ since
  pub over : IsOver session before
  pub none : AllByRecursion (GoesOn session) since

-- ---- links

-- the link that was taken out
abbrev pub link_taken : SourceStep → List Link
link_taken (steps.Asked session ask reply link) = []
link_taken (steps.Given session reply) = []
link_taken (steps.Collected session notice) = []
link_taken (steps.Ended session) = []
link_taken (steps.TookLink link) = option_to_list link
link_taken (steps.BeganEpoch link) = []

-- the link that a transaction or an epoch made
abbrev pub link_made : SourceStep → List Link
link_made (steps.Asked session ask reply link) = option_to_list link
link_made (steps.Given session reply) = []
link_made (steps.Collected session notice) = []
link_made (steps.Ended session) = []
link_made (steps.TookLink link) = []
link_made (steps.BeganEpoch link) = link ∷ []

-- ---- all steps

-- Each request was replied to under its own id. The replies to the transactions of a session since its last end were given to it in
-- the order of the transactions, each once, but for those that wait still; so none of before that end was. And the links that were
-- made were taken out in the order of their making, each once, but for those that are held still.
pub record IsAccounted (start : SourceDeskValue) (made : List SourceStep) (left : SourceState) : Type 0 where
  pub said : AllByRecursion IsSaid made
  pub given : (session : ℕ) (since : List SourceStep) → IsSinceEnd session made since
      → flat_map (made_for session) since ≡ flat_map (given_to session) since ++ map message_of (replies_at session left.waiting)
  pub taken : start.unpublished ++ flat_map link_made made ≡ flat_map link_taken made ++ left.desk.unpublished
