-- Calls on the requests that are passed on, and what each makes of the ledger.
use Rattle.std.specs.Prelude.{◌≡◌, ◌≢◌, ◌<◌, ◌+◌, ◌*◌, ◌++◌, ◌==◌, ℕ, [], ◌∷◌, not, map, filter, Option, Some, None, Result, Ok, Err}
use Rattle.std.specs.List.{AllByRecursion}
use Rattle.serde_json.specs.Data.{Data}
use Rattle.ovs_authority.specs.declared.ask.Request.{Request}
use Rattle.ovs_desk.specs.declared.standing.StandingAnswer.{StandingAnswer}
use Rattle.ovs_desk.specs.declared.forwarded.Forwarded.{Forwarded}
use Rattle.ovs_desk.specs.declared.forwarded.RequestFilter.TheVariants.{ToGo, Open, Due}
use Rattle.ovs_desk.specs.declared.forwarded.ForwardedState.TheVariants.{Waiting}
use Rattle.ovs_desk.specs.declared.error.ForwardError.{ForwardError}
use Rattle.ovs_desk.specs.declared.error.ForwardError.TheVariants.{Full, Spent, NoMemory}
use Rattle.ovs_desk.specs.declared.error.ForwardRefused.{ForwardRefused}
use Rattle.ovs_desk.specs.Ledger.{Ledger, Forwarding, passes, taken, answered, lost, at_first, without_first, with_pending, to_go, due_to, place_of, refusal}

-- a call that was not refused, with what it gave: a session's request, by its own id, and the number that it got; the request that went
-- up; the answer to the request of a number; the request whose answer a session was given
pub data Call : Type 0 where
  Sends : ℕ → Data → Request → ℕ → Call
  TakesUp : Option Forwarded → Call
  Replies : ℕ → StandingAnswer → Call
  LosesSource : Call
  Collects : ℕ → Option Forwarded → Call
  Ends : ℕ → Call

-- the number of the next request: how many were sent before it, times 4096, and a place that no other request has
abbrev pub IsNumber : Ledger → ℕ → Type 0
IsNumber l n =
    (place : ℕ) × (place < 4096) × (n ≡ 4096 * l.sent + place) × AllByRecursion (λ e. place_of e.number ≢ place) l.pending

-- a request that waits to go up
abbrev pub sent_by : ℕ → Data → Request → ℕ → Forwarded
sent_by session id request n = record { asker = session; id = id; number = n; state = Waiting request }

-- the same request last
abbrev pub with_one_more : Ledger → Forwarded → Ledger
with_one_more l e = record { sent = l.sent + 1; pending = l.pending ++ e ∷ [] }

-- what a call gives, and the ledger after it
abbrev pub After : Call → Ledger → Ledger → Type 0
After (Sends session id request n) l m = IsNumber l n × (m ≡ with_one_more l (sent_by session id request n))
After (TakesUp up) l m = (up ≡ to_go l) × (m ≡ with_pending l (at_first (passes ToGo) taken l.pending))
After (Replies n answer) l m = m ≡ with_pending l (at_first (passes (Open n)) (answered answer) l.pending)
After LosesSource l m = m ≡ with_pending l (map lost l.pending)
After (Collects session back) l m = (back ≡ due_to session l) × (m ≡ with_pending l (without_first (passes (Due session)) l.pending))
After (Ends session) l m = m ≡ with_pending l (filter (λ e. not (e.asker == session)) l.pending)

-- a refusal for this cause, or for want of memory where there is none
abbrev pub IsRefused : Option ForwardError → ForwardError → Type 0
IsRefused cause Full = cause ≡ Some Full
IsRefused cause Spent = cause ≡ Some Spent
IsRefused cause NoMemory = cause ≡ None

-- what sending gives: a number with the place that was offered, or id and request again, and then nothing has changed
abbrev pub SendsTo : Forwarding → ℕ → Data → Request → Result ℕ ForwardRefused → Forwarding → Type 0
SendsTo f session id request (Ok n) g =
    (refusal f ≡ None) × (n ≡ 4096 * f.ledger.sent + f.offered) × After (Sends session id request n) f.ledger g.ledger
SendsTo f session id request (Err u) g = IsRefused (refusal f) u.error × (u.id ≡ id) × (u.request ≡ request) × (g ≡ f)
