-- The replies that wait at a source's desk until they are given.
use Rattle.std.specs.Prelude.{◌≡◌, ◌≢◌, ◌<◌, ℕ, List, [], ◌∷◌, Option, Some, None, unwrap_or, option_map, slice_get}
use Rattle.std.specs.BTreeMap.{BTreeMap, is_at, get}
use Rattle.std.specs.Map.{lookup}
use Rattle.std.specs.Option.{IsSomeAnd}
use Rattle.std.specs.Ordering.{nat_cmp}
use Rattle.std.specs.VecDeque.{deque_len, deque_capacity}
use Rattle.std.specs.declared.collections.VecDeque.{VecDeque}
use Rattle.ovs_authority.specs.Answers.{reply_of}
use Rattle.ovs_wire.specs.declared.message.Message.{Message}
use Rattle.ovs_recorded_source.specs.declared.waiting.WaitingReply.{WaitingReply}

-- the replies that wait for each session, in the order in which they were made; a session for which none waits isn't there
abbrev pub Waiting : Type 0
Waiting = List (ℕ × List WaitingReply)

-- those that wait for a session
abbrev pub replies_at : ℕ → Waiting → List WaitingReply
replies_at session waiting = unwrap_or (lookup (is_at (nat_cmp session)) waiting) []

-- the reply itself
abbrev pub message_of : WaitingReply → Message
message_of r = reply_of r.answer r.id

abbrev pub standing_of : WaitingReply → ℕ
standing_of r = r.standing

-- where the first of them stands, if one waits
abbrev pub next_standing : ℕ → Waiting → Option ℕ
next_standing session waiting = option_map standing_of (slice_get (replies_at session waiting) 0)

-- the replies that wait for this session become these, and no others change
pub record Become (old : Waiting) (session : ℕ) (replies : List WaitingReply) (new : Waiting) : Type 0 where
  pub at : replies_at session new ≡ replies
  pub others : (other : ℕ) → other ≢ session → replies_at other new ≡ replies_at other old

-- the first of a session is taken out, if one waits
abbrev pub TakesFirst : ℕ → Waiting → Option WaitingReply → Waiting → Type 0
TakesFirst session old None new = (replies_at session old ≡ []) × (new ≡ old)
TakesFirst session old (Some r) new = (rest : List WaitingReply) × (replies_at session old ≡ r ∷ rest) × Become old session rest new

-- ---- as they are kept

-- a session before others, if a reply waits for it
abbrev pub with_session : ℕ → List WaitingReply → Waiting → Waiting
with_session session [] others = others
with_session session (r ∷ later) others = (session, r ∷ later) ∷ others

-- the sessions for which a reply waits
abbrev pub listed : {Z : Type 0} → List (ℕ × VecDeque WaitingReply Z) → Waiting
listed [] = []
listed (e ∷ es) = with_session e.0 e.1.items (listed es)

-- a reply more can be put for this session without memory
abbrev pub HasRoom : {Z : Type 0} → ℕ → BTreeMap ℕ (VecDeque WaitingReply Z) → Type 0
HasRoom session m = IsSomeAnd (get nat_cmp m session) (λ d. deque_len d < deque_capacity d)
