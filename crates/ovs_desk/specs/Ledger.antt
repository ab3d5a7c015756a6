-- Requests that are passed on: how many were sent, and those that aren't collected yet, in order of sending.
use Rattle.std.specs.Prelude.{◌≡◌, ◌%◌, ◌^◌, ◌==◌, ◌&&◌, ℕ, List, [], ◌∷◌, Bool, true, false, not, Option, Some, None, if◌then◌else◌, option_and_then, option_map, codes, length, nat_lt}
use Rattle.std.specs.List.{find}
use Rattle.serde_json.specs.Data.{Data}
use Rattle.ovs_authority.specs.Answers as answers
use Rattle.ovs_authority.specs.Answers.{refused}
use Rattle.ovs_wire.specs.Named.{id_of_number}
use Rattle.ovs_wire.specs.declared.message.Message.{Message}
use Rattle.ovs_wire.specs.declared.message.Message.TheVariants as messages
use Rattle.ovs_desk.specs.declared.standing.StandingAnswer.{StandingAnswer}
use Rattle.ovs_desk.specs.declared.forwarded.Forwarded.{Forwarded}
use Rattle.ovs_desk.specs.declared.forwarded.RequestFilter.{RequestFilter}
use Rattle.ovs_desk.specs.declared.forwarded.RequestFilter.TheVariants.{ToGo, Open, Due, Of}
use Rattle.ovs_desk.specs.declared.forwarded.ForwardedState.{ForwardedState}
use Rattle.ovs_desk.specs.declared.forwarded.ForwardedState.TheVariants.{Waiting, Taken, Answered, Lost}
use Rattle.ovs_desk.specs.declared.error.ForwardError.{ForwardError}
use Rattle.ovs_desk.specs.declared.error.ForwardError.TheVariants.{Full, Spent}

pub record Ledger : Type 0 where
  pub sent : ℕ
  pub pending : List Forwarded

-- ---- one request

abbrev pub is_waiting : ForwardedState → Bool
is_waiting (Waiting request) = true
is_waiting Taken = false
is_waiting (Answered answer) = false
is_waiting Lost = false

-- it waits for its answer
abbrev pub is_open : ForwardedState → Bool
is_open (Waiting request) = true
is_open Taken = true
is_open (Answered answer) = false
is_open Lost = false

abbrev pub is_lost : ForwardedState → Bool
is_lost (Waiting request) = false
is_lost Taken = false
is_lost (Answered answer) = false
is_lost Lost = true

abbrev pub passes : RequestFilter → Forwarded → Bool
passes ToGo e = is_waiting e.state
passes (Open number) e = (e.number == number) && is_open e.state
passes (Due session) e = (e.asker == session) && not (is_open e.state)
passes (Of session) e = e.asker == session

-- what goes up: the request, with its number as the id
abbrev pub going_up : ℕ → ForwardedState → Option Message
going_up number (Waiting request) = Some (messages.Request request.method request.params (id_of_number number))
going_up number Taken = None
going_up number (Answered answer) = None
going_up number Lost = None

abbrev pub message_of : Forwarded → Option Message
message_of e = going_up e.number e.state

-- what is answered to those that wait when the source is lost, wherever the chain stands
abbrev pub source_lost : StandingAnswer
source_lost = record { answer = refused (codes "source lost"); standing = 0 }

-- what goes back: the answer, or that the source was lost, with the asker's own id
abbrev pub going_back : Data → ForwardedState → Option Message
going_back id (Waiting request) = None
going_back id Taken = None
going_back id (Answered a) = Some (answers.reply_of a.answer id)
going_back id Lost = Some (answers.reply_of source_lost.answer id)

abbrev pub reply_of : Forwarded → Option Message
reply_of e = going_back e.id e.state

-- where an answer stands; 0 where there is none, or the source was lost
abbrev pub stands_at : ForwardedState → ℕ
stands_at (Waiting request) = 0
stands_at Taken = 0
stands_at (Answered a) = a.standing
stands_at Lost = 0

abbrev pub standing_of : Forwarded → ℕ
standing_of e = stands_at e.state

abbrev pub with_state : ForwardedState → Forwarded → Forwarded
with_state state e = record { asker = e.asker; id = e.id; number = e.number; state = state }

abbrev pub taken : Forwarded → Forwarded
taken e = with_state Taken e

abbrev pub answered : StandingAnswer → Forwarded → Forwarded
answered answer e = with_state (Answered answer) e

abbrev pub lost : Forwarded → Forwarded
lost e = if is_open e.state then with_state Lost e else e

-- one that was lost gets the answer that says so
abbrev pub settled_state : ForwardedState → ForwardedState
settled_state (Waiting request) = Waiting request
settled_state Taken = Taken
settled_state (Answered answer) = Answered answer
settled_state Lost = Answered source_lost

abbrev pub settled : Forwarded → Forwarded
settled e = with_state (settled_state e.state) e

-- ---- all of them

-- the first that passes becomes what f makes of it
abbrev pub at_first : (Forwarded → Bool) → (Forwarded → Forwarded) → List Forwarded → List Forwarded
at_first test f [] = []
at_first test f (e ∷ es) = if test e then f e ∷ es else e ∷ at_first test f es

-- all but the first that passes
abbrev pub without_first : (Forwarded → Bool) → List Forwarded → List Forwarded
without_first test [] = []
without_first test (e ∷ es) = if test e then es else e ∷ without_first test es

-- others in the place of those that were there
abbrev pub with_pending : Ledger → List Forwarded → Ledger
with_pending l es = record { sent = l.sent; pending = es }

-- the first request that waits to go up, and the same as a message
abbrev pub to_go : Ledger → Option Forwarded
to_go l = find (passes ToGo) l.pending

abbrev pub next_up : Ledger → Option Message
next_up l = option_and_then message_of (to_go l)

-- the first answer that is due to a session, and the same as a message
abbrev pub due_to : ℕ → Ledger → Option Forwarded
due_to session l = find (passes (Due session)) l.pending

abbrev pub next_back : ℕ → Ledger → Option Message
next_back session l = option_and_then reply_of (due_to session l)

-- whether that answer is that the source was lost, which is written only when it is given; every other is given as it came
abbrev pub lost_to : ℕ → Ledger → Option Bool
lost_to session l = option_map (λ (e : Forwarded). is_lost e.state) (due_to session l)

-- where that answer stands
abbrev pub next_standing : ℕ → Ledger → Option ℕ
next_standing session l = option_map standing_of (due_to session l)

-- the session that asked under a number, if that request waits for its answer
abbrev pub asker_of : ℕ → Ledger → Option ℕ
asker_of number l = option_map (λ (e : Forwarded). e.asker) (find (passes (Open number)) l.pending)

-- ---- places

abbrev pub place_of : ℕ → ℕ
place_of number = number % 4096

-- a ledger, how many places are taken, and the place that is offered to the next request
pub record Forwarding : Type 0 where
  pub ledger : Ledger
  pub used : ℕ
  pub offered : ℕ

-- each request that isn't collected has one place, and no other place is taken
abbrev pub IsKept : Forwarding → Type 0
IsKept f = f.used ≡ length f.ledger.pending

abbrev pub SamePlaces : Forwarding → Forwarding → Type 0
SamePlaces f g = (g.used ≡ f.used) × (g.offered ≡ f.offered)

-- why one more request isn't sent, want of memory aside
abbrev pub refusal : Forwarding → Option ForwardError
refusal f =
    if nat_lt (length f.ledger.pending) 4096 && nat_lt f.offered 4096 then (if nat_lt f.ledger.sent (2 ^ 50) then None else Some Spent)
    else Some Full
