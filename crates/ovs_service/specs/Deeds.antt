-- What is to be done for a session, and what was done.
use Rattle.std.specs.Prelude.{◌≡◌, ℕ, Bool, List, [], ◌∷◌, ◌++◌, Option, map, option_to_list, IfSome}
use Rattle.std.specs.List.{AllByRecursion}
use Rattle.ovs_authority.specs.declared.ask.Ask.{Ask}
use Rattle.ovs_wire.specs.declared.message.Message.{Message}
use Rattle.ovs_service.specs.Replies.{RepliesTo, IsOwed}
use Rattle.ovs_service.specs.Texts.{AreTextsOf}
use Rattle.ovs_service.specs.Asking.{SessionTokenValue, with_calls}
use Rattle.ovs_service.specs.declared.session_token.AuthorityCall.{AuthorityCall}
use Rattle.ovs_service.specs.declared.session_token.AuthorityCall.TheVariants.{Asked, Collected}
use Rattle.ovs_service.specs.declared.pending.Pending.{Pending}
use Rattle.ovs_service.specs.declared.pending.Pending.TheVariants.{Say, Tell, Put}

-- to say a message; to put an ask to the desk, and to say what is replied; or to say what a call of `collect` gave
pub data Task : Type 0 where
  ToSay : Message → Task
  ToAsk : Ask → Task
  ToGive : Bool → Option Message → Task

-- a message was given, of what a view shows; or the desk was called
pub data Deed : Type 0 where
  Gave : Message → Deed
  Called : AuthorityCall → Deed

-- what was to be done
abbrev pub task_of : Deed → Task
task_of (Gave m) = ToSay m
task_of (Called (Asked ask reply)) = ToAsk ask
task_of (Called (Collected held message)) = ToGive held message

-- the messages that deeds gave, each once, in order
abbrev pub messages_of : List Deed → List Message
messages_of [] = []
messages_of (Gave m ∷ deeds) = m ∷ messages_of deeds
messages_of (Called (Asked ask reply) ∷ deeds) = option_to_list reply ++ messages_of deeds
messages_of (Called (Collected held message) ∷ deeds) = option_to_list message ++ messages_of deeds

-- the calls of the desk among deeds
abbrev pub calls_of : List Deed → List AuthorityCall
calls_of [] = []
calls_of (Gave m ∷ deeds) = calls_of deeds
calls_of (Called call ∷ deeds) = call ∷ calls_of deeds

-- what is due, one after another
abbrev pub tasks : List Pending → List Task
tasks [] = []
tasks (Say m ∷ pending) = ToSay m ∷ tasks pending
tasks (Tell ms ∷ pending) = map ToSay ms ++ tasks pending
tasks (Put ask ∷ pending) = ToAsk ask ∷ tasks pending

module _ (replies : Ask → Option Message → Type 0) where
  -- the desk may reply so, and the reply bears the ask's id
  abbrev pub Replies : Ask → Option Message → Type 0
  Replies ask reply = replies ask reply × RepliesTo ask.id reply

  -- where the call asked, the desk may reply so
  abbrev pub IsReplied : AuthorityCall → Type 0
  IsReplied (Asked ask reply) = Replies ask reply
  IsReplied (Collected held message) = Unit {0}

  -- The first of what was to be done was done, each once and in order, by these calls of the desk. Of the messages that were given the
  -- first were said, by this text. What is to be done then is to say the others, and what wasn't done.
  pub record Settles (old : List Task) (made : List AuthorityCall) (said : List ℕ) (new : List Task) : Type 0 where
    pub deeds : List Deed
    pub left : List Task
    pub does : old ≡ map task_of deeds ++ left
    pub calls : made ≡ calls_of deeds
    pub replied : AllByRecursion IsReplied made
    pub given : List Message
    pub unsaid : List Message
    pub gives : messages_of deeds ≡ given ++ unsaid
    pub texts : AreTextsOf given said
    pub then : new ≡ map ToSay unsaid ++ left

-- What was to be done for a session is settled so: what is said stands behind what was to be written, and the calls of the desk were
-- made for it.
pub record Does (replies : ℕ → Ask → Option Message → Type 0) (old : List Task) (token : SessionTokenValue) (out : List ℕ)
    (new : List Task) (asked : SessionTokenValue) (written : List ℕ) : Type 0 where
  pub made : List AuthorityCall
  pub said : List ℕ
  pub settles : Settles (replies token.session_id) old made said new
  pub calls : asked ≡ with_calls token made
  pub text : written ≡ out ++ said

-- The first of messages that are to be said are said, behind what was to be written; the others are to be said then.
pub record SaysFirst (messages : List Message) (out : List ℕ) (new : List Task) (written : List ℕ) : Type 0 where
  pub first : List Message
  pub rest : List Message
  pub whole : messages ≡ first ++ rest
  pub said : List ℕ
  pub texts : AreTextsOf first said
  pub then : new ≡ map ToSay rest
  pub text : written ≡ out ++ said

-- An ask is put for a session; what is replied at once is to be said then.
pub record PutsTo (replies : ℕ → Ask → Option Message → Type 0) (ask : Ask) (token : SessionTokenValue) (new : List Task) (asked : SessionTokenValue) : Type 0 where
  pub reply : Option Message
  pub replied : Replies (replies token.session_id) ask reply
  pub call : asked ≡ with_calls token (Asked ask reply ∷ [])
  pub then : new ≡ map ToSay (option_to_list reply)

-- the messages that calls of `collect` gave, in order
abbrev pub given_by : List (Option Message) → List Message
given_by [] = []
given_by (message ∷ taken) = option_to_list message ++ given_by taken

-- What calls of `collect` gave for a session is due behind what was due before, each message once, in order; and each is owed.
pub record Collects (owes : ℕ → Message → Type 0) (held : Bool) (old : List Pending) (token : SessionTokenValue) (new : List Pending) (asked : SessionTokenValue) : Type 0 where
  pub taken : List (Option Message)
  pub owed : AllByRecursion (λ m. IfSome m (IsOwed (owes token.session_id))) taken
  pub calls : asked ≡ with_calls token (map (Collected held) taken)
  pub due : new ≡ old ++ map Say (given_by taken)
