-- What a session's token shows: the calls that were made for it at its desk.
use Rattle.std.specs.Prelude.{◌≡◌, ◌+◌, ◌-◌, ◌⊎◌, ◌++◌, ℕ, Bool, true, false, List, [], ◌∷◌, Some, None, fold}
use Rattle.std.specs.List.{list_any}
use Rattle.ovs_authority.specs.declared.ask.Verb.{Verb}
use Rattle.ovs_authority.specs.declared.ask.Verb.TheVariants.{Transact, Lock, Steal, Unlock}
use Rattle.ovs_wire.specs.declared.message.Message.TheVariants.{Request, Reply, Notice}
use Rattle.ovs_service.specs.declared.session_token.AuthorityCall.{AuthorityCall}
use Rattle.ovs_service.specs.declared.session_token.AuthorityCall.TheVariants.{Asked, Collected}

-- the number of a session, and all calls that were made for it at its desk, with what they gave
pub record SessionTokenValue : Type 0 where
  pub session_id : ℕ
  pub calls : List AuthorityCall

-- the same session, for which these calls were made too
abbrev pub with_calls : SessionTokenValue → List AuthorityCall → SessionTokenValue
with_calls token made = record { session_id = token.session_id; calls = token.calls ++ made }

-- so many asks of a session at most have no reply yet
abbrev pub most_unanswered : ℕ
most_unanswered = 128

-- one more where an ask got no reply at once, one fewer where a reply was collected
abbrev pub without_reply_after : ℕ → AuthorityCall → ℕ
without_reply_after n (Asked ask None) = n + 1
without_reply_after n (Asked ask (Some reply)) = n
without_reply_after n (Collected held None) = n
without_reply_after n (Collected held (Some (Reply result error id))) = n - 1
without_reply_after n (Collected held (Some (Request method params id))) = n
without_reply_after n (Collected held (Some (Notice method params))) = n

-- how many asks have no reply yet
abbrev pub without_reply : List AuthorityCall → ℕ
without_reply calls = fold without_reply_after 0 calls

-- the verb asks for a lock
abbrev pub is_for_a_lock : Verb → Bool
is_for_a_lock (Transact operations) = false
is_for_a_lock (Lock name) = true
is_for_a_lock (Steal name) = true
is_for_a_lock (Unlock name) = false

-- a lock was asked for, so that notifications of it may come
abbrev pub asks_for_a_lock : AuthorityCall → Bool
asks_for_a_lock (Asked ask reply) = is_for_a_lock ask.verb
asks_for_a_lock (Collected held message) = false

-- the last call of the desk had nothing for the session
pub record FoundNothing (calls : List AuthorityCall) : Type 0 where
  pub before : List AuthorityCall
  pub held : Bool
  pub all : calls ≡ before ++ Collected held None ∷ []

-- the desk had nothing for the session when it was asked last; or all asks have their replies, and none was for a lock
abbrev pub HasNothingMore : List AuthorityCall → Type 0
HasNothingMore calls = FoundNothing calls ⊎ ((without_reply calls ≡ 0) × (list_any asks_for_a_lock calls ≡ false))
