-- Which answer a session is given to a request that was passed on.
use Rattle.std.specs.Prelude.{◌≡◌, ◌==◌, ◌++◌, ⊤, ℕ, List, [], ◌∷◌, Option, Some, None, if◌then◌else◌}
use Rattle.std.specs.Option.{option_or}
use Rattle.ovs_authority.specs.declared.ask.Request.{Request}
use Rattle.ovs_desk.specs.Calls.{Call, Sends, TakesUp, Replies, LosesSource, Collects, Ends}
use Rattle.ovs_desk.specs.declared.forwarded.Forwarded.{Forwarded}
use Rattle.ovs_desk.specs.declared.forwarded.ForwardedState.{ForwardedState}
use Rattle.ovs_desk.specs.declared.forwarded.ForwardedState.TheVariants.{Answered, Lost}

-- what a call makes of an open request of this number, where it closes it: answered, or lost with the source
abbrev pub closes : ℕ → Call → Option ForwardedState
closes number (Sends session id request n) = None
closes number (TakesUp up) = None
closes number (Replies n answer) = if number == n then Some (Answered answer) else None
closes number LosesSource = Some Lost
closes number (Collects session back) = None
closes number (Ends session) = None

-- what the first of these calls makes of it that closes it
abbrev pub closed_by : ℕ → List Call → Option ForwardedState
closed_by number [] = None
closed_by number (c ∷ later) = option_or (closes number c) (closed_by number later)

-- the request was sent by one of these calls, and the first call after it that closes it made of it what it is
pub record IsClosedBy (e : Forwarded) (made : List Call) : Type 0 where
  pub earlier : List Call
  pub later : List Call
  pub request : Request
  pub sent : made ≡ earlier ++ Sends e.asker e.id request e.number ∷ later
  pub closed : closed_by e.number later ≡ Some e.state

abbrev pub GivesClosed : Call → List Call → Type 0
GivesClosed (Sends session id request n) made = ⊤
GivesClosed (TakesUp up) made = ⊤
GivesClosed (Replies n answer) made = ⊤
GivesClosed LosesSource made = ⊤
GivesClosed (Collects session None) made = ⊤
GivesClosed (Collects session (Some e)) made = IsClosedBy e made
GivesClosed (Ends session) made = ⊤

-- each answer that is given, behind the calls that were made before, is the first reply to the request's number after it was sent, or
-- that the source was lost where that came first
abbrev pub AllGiveClosed : List Call → List Call → Type 0
AllGiveClosed made [] = ⊤
AllGiveClosed made (c ∷ later) = GivesClosed c made × AllGiveClosed (made ++ c ∷ []) later
