-- What a node knows of one reader, and what it says to it.
use Rattle.std.specs.Prelude.{◌≡◌, ◌<◌, ℕ, Bool, true, false, List, [], ◌∷◌, ◌++◌, Option, map}
use Rattle.ovs_types.specs.Schema.{SchemaValue}
use Rattle.ovs_links.specs.Absorbing.{folded_by}
use Rattle.ovs_links.specs.declared.step.Step.{Step}
use Rattle.ovs_authority.specs.declared.ask.Ask.{Ask}
use Rattle.ovs_wire.specs.declared.message.Message.{Message}
use Rattle.ovs_reader.specs.Session.{is_over, new_session}
use Rattle.ovs_reader.specs.Turns.{turn, after_turn}
use Rattle.ovs_reader.specs.Telling.{told_some, after_some}
use Rattle.ovs_views.specs.Published.{GoesOn, ViewSessionValue}
use Rattle.ovs_service.specs.Asking.{SessionTokenValue, HasNothingMore, most_unanswered, without_reply}
use Rattle.ovs_service.specs.Calls.{Call, Answer, Give, AreTasksOf, IsTelling, IsAllTold, most_told, shown_to}
use Rattle.ovs_service.specs.Deeds.{Task, ToSay, Settles, tasks}
use Rattle.ovs_service.specs.declared.session_token.AuthorityCall.{AuthorityCall}
use Rattle.ovs_service.specs.declared.pending.Pending.{Pending}

-- its session, its number, all calls that were made for it at the desk, and what is due to it
pub record ClientValue : Type 0 where
  pub session : ViewSessionValue
  pub session_id : ℕ
  pub calls : List AuthorityCall
  pub due : List Pending

-- the session as the desk knows it
abbrev pub token_of : ClientValue → SessionTokenValue
token_of c = record { session_id = c.session_id; calls = c.calls }

-- nothing is due, and one more may be asked
abbrev pub MayAsk : ClientValue → Type 0
MayAsk c = (c.due ≡ []) × (without_reply c.calls < most_unanswered)

-- nothing is due, and all that was asked has its reply
abbrev pub IsAnswered : ClientValue → Type 0
IsAnswered c = (c.due ≡ []) × (without_reply c.calls ≡ 0)

-- a session to which nothing was shown beyond these steps
abbrev pub new_view : List Step → ViewSessionValue
new_view last = record { session = new_session; last = last }

-- nothing was heard of it yet
abbrev pub new_client : ℕ → List Step → ClientValue
new_client session_id last = record { session = new_view last; session_id = session_id; calls = []; due = [] }

-- these steps begin anew behind those that the client was shown: what it was told doesn't go on in them
abbrev pub HasBegunAnew : SchemaValue → List Step → ClientValue → Type 0
HasBegunAnew schema shown c = is_over c.session.session.start (folded_by schema shown) ≡ true

-- a client heard a message, which was answered from these steps, which go on from those that were shown before and don't begin anew:
-- what comes of the turn is due behind what was
pub record Hears (schema : SchemaValue) (shown : List Step) (message : Message) (old new : ClientValue) : Type 0 where
  pub goes_on : GoesOn schema old.session.last shown
  pub lasts : is_over old.session.session.start (folded_by schema shown) ≡ false
  pub added : List Pending
  pub gives : AreTasksOf (turn old.session.session (folded_by schema shown) message) (tasks added)
  pub after : new ≡ record {
    session = shown_to shown (after_turn old.session.session (folded_by schema shown) message);
    session_id = old.session_id;
    calls = old.calls;
    due = old.due ++ added;
  }

-- what its monitors tell in one call of these steps, which go on from those that were shown before and don't begin anew, is due behind
-- what was
pub record IsTold (schema : SchemaValue) (shown : List Step) (old new : ClientValue) : Type 0 where
  pub goes_on : GoesOn schema old.session.last shown
  pub lasts : is_over old.session.session.start (folded_by schema shown) ≡ false
  pub added : List Pending
  pub gives : tasks added ≡ map ToSay (told_some most_told old.session.session.monitors (folded_by schema shown).steps)
  pub after : new ≡ record {
    session = shown_to shown (after_some most_told old.session.session (folded_by schema shown));
    session_id = old.session_id;
    calls = old.calls;
    due = old.due ++ added;
  }

module _ (schema : SchemaValue) (replies : ℕ → Ask → Option Message → Type 0) (owes : Bool → ℕ → List Step → Message → Type 0) where
  -- Calls are made for a client. What comes of them is to be done behind what was due; the first of it is done, by these calls of the
  -- desk, of which none was made before, and the rest is due.
  pub record Serves (calls : List Call) (old : ClientValue) (said : List ℕ) (new : ClientValue) : Type 0 where
    pub todo : List Task
    pub gives : Give schema (λ held. owes held old.session_id) calls old.session todo new.session
    pub made : List AuthorityCall
    pub settles : Settles (replies old.session_id) (tasks old.due ++ todo) made said (tasks new.due)
    pub session_id : new.session_id ≡ old.session_id
    pub all : new.calls ≡ old.calls ++ made

  -- the text is answered from these steps
  abbrev pub AnswersFrom : List Step → ClientValue → List ℕ → List ℕ → ClientValue → Type 0
  AnswersFrom shown old text said new = Serves (Answer text shown ∷ []) old said new

  -- What is due is said, and then what is new in these steps; the latter may stay untold only where something was due.
  pub record TellsOf (shown : List Step) (old : ClientValue) (said : List ℕ) (new : ClientValue) : Type 0 where
    pub calls : List Call
    pub telling : IsTelling shown calls
    pub some : old.due ≡ [] → calls ≡ [] → ⊥
    pub serves : Serves calls old said new

  -- the text is answered
  abbrev pub AnswersTo : ClientValue → List ℕ → List ℕ → ClientValue → Type 0
  AnswersTo old text said new = (shown : List Step) × AnswersFrom shown old text said new

  -- what is new is told
  abbrev pub TellsNew : ClientValue → List ℕ → ClientValue → Type 0
  TellsNew old said new = (shown : List Step) × TellsOf shown old said new

-- Nothing is due to the client. Each of its monitors was told all that was shown to it, which is all that is known, and the desk had
-- nothing more for it.
pub record HasAll (known : List Step) (c : ClientValue) : Type 0 where
  pub due : c.due ≡ []
  pub shown : c.session.last ≡ known
  pub told : IsAllTold c.session
  pub collected : HasNothingMore c.calls
