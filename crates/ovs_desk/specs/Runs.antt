-- Lists of calls on the requests that are passed on, and what is seen of them.
use Rattle.std.specs.Prelude.{◌≡◌, ◌≢◌, ◌≤◌, ◌++◌, ◌⊎◌, ⊤, ℕ, suc, List, [], ◌∷◌, map, Some, None, option_to_list}
use Rattle.std.specs.List.{AllByRecursion}
use Rattle.serde_json.specs.Data.{Data}
use Rattle.ovs_wire.specs.declared.message.Message.TheVariants as messages
use Rattle.ovs_authority.specs.declared.ask.Request.{Request}
use Rattle.ovs_desk.specs.declared.forwarded.Forwarded.{Forwarded}
use Rattle.ovs_desk.specs.Calls.{Call, Sends, TakesUp, Replies, LosesSource, Collects, Ends, After, sent_by}
use Rattle.ovs_desk.specs.Ledger.{Ledger, reply_of}

-- a list of calls, with a ledger between each two
abbrev pub Runs : Ledger → List Call → Ledger → Type 0
Runs l [] m = m ≡ l
Runs l (c ∷ cs) m = (k : Ledger) × After c l k × Runs k cs m

abbrev pub no_request : Ledger
no_request = record { sent = 0; pending = [] }

-- ---- what is seen

-- what a call sends
abbrev pub sent_in : Call → List Forwarded
sent_in (Sends session id request n) = sent_by session id request n ∷ []
sent_in (TakesUp up) = []
sent_in (Replies n answer) = []
sent_in LosesSource = []
sent_in (Collects session back) = []
sent_in (Ends session) = []

-- the requests that were sent, in that order
abbrev pub sent : List Call → List Forwarded
sent [] = []
sent (c ∷ cs) = sent_in c ++ sent cs

abbrev pub taken_up_in : Call → List Forwarded
taken_up_in (Sends session id request n) = []
taken_up_in (TakesUp up) = option_to_list up
taken_up_in (Replies n answer) = []
taken_up_in LosesSource = []
taken_up_in (Collects session back) = []
taken_up_in (Ends session) = []

-- the requests that went up, in that order
abbrev pub taken_up : List Call → List Forwarded
taken_up [] = []
taken_up (c ∷ cs) = taken_up_in c ++ taken_up cs

abbrev pub collected_in : Call → List Forwarded
collected_in (Sends session id request n) = []
collected_in (TakesUp up) = []
collected_in (Replies n answer) = []
collected_in LosesSource = []
collected_in (Collects session back) = option_to_list back
collected_in (Ends session) = []

-- the requests whose answers were given, in that order
abbrev pub collected : List Call → List Forwarded
collected [] = []
collected (c ∷ cs) = collected_in c ++ collected cs

abbrev pub numbers : List Forwarded → List ℕ
numbers es = map (λ (e : Forwarded). e.number) es

-- ---- what holds of it

-- each is above those before it, and none is below this one
abbrev pub RiseFrom : ℕ → List ℕ → Type 0
RiseFrom low [] = ⊤
RiseFrom low (n ∷ ns) = (low ≤ n) × RiseFrom (suc n) ns

-- the first list is the second one with some left out
abbrev pub IsPartOf : List Forwarded → List Forwarded → Type 0
IsPartOf [] ys = ⊤
IsPartOf (x ∷ xs) [] = ⊥
IsPartOf (x ∷ xs) (y ∷ ys) = ((x ≡ y) × IsPartOf xs ys) ⊎ IsPartOf (x ∷ xs) ys

-- none stands twice
abbrev pub EachOnce : List ℕ → Type 0
EachOnce [] = ⊤
EachOnce (n ∷ ns) = AllByRecursion (λ m. m ≢ n) ns × EachOnce ns

-- the request is one of those that were sent, but for how far it has come
pub record WasSent (e : Forwarded) (before : List Forwarded) : Type 0 where
  pub earlier : List Forwarded
  pub later : List Forwarded
  pub request : Request
  pub sent : before ≡ earlier ++ sent_by e.asker e.id request e.number ∷ later

-- what is given to a session: the reply under its own id to a request that it sent before
pub record IsOwnAnswer (session : ℕ) (e : Forwarded) (before : List Forwarded) : Type 0 where
  pub own : e.asker ≡ session
  pub was_sent : WasSent e before
  pub result : Data
  pub error : Data
  pub reply : reply_of e ≡ Some (messages.Reply result error e.id)

abbrev pub GivesOwn : Call → List Forwarded → Type 0
GivesOwn (Sends session id request n) before = ⊤
GivesOwn (TakesUp up) before = ⊤
GivesOwn (Replies n answer) before = ⊤
GivesOwn LosesSource before = ⊤
GivesOwn (Collects session None) before = ⊤
GivesOwn (Collects session (Some e)) before = IsOwnAnswer session e before
GivesOwn (Ends session) before = ⊤

-- each answer that is given is the asker's own, where these were sent before
abbrev pub AllGiveOwn : List Forwarded → List Call → Type 0
AllGiveOwn before [] = ⊤
AllGiveOwn before (c ∷ cs) = GivesOwn c before × AllGiveOwn (before ++ sent_in c) cs

-- the session sends nothing
abbrev pub StaysAway : ℕ → Call → Type 0
StaysAway session (Sends other id request n) = other ≢ session
StaysAway session (TakesUp up) = ⊤
StaysAway session (Replies n answer) = ⊤
StaysAway session LosesSource = ⊤
StaysAway session (Collects other back) = ⊤
StaysAway session (Ends other) = ⊤

-- nothing is given to the session
abbrev pub GivesNothing : ℕ → Call → Type 0
GivesNothing session (Sends other id request n) = ⊤
GivesNothing session (TakesUp up) = ⊤
GivesNothing session (Replies n answer) = ⊤
GivesNothing session LosesSource = ⊤
GivesNothing session (Collects other back) = other ≡ session → back ≡ None
GivesNothing session (Ends other) = ⊤
