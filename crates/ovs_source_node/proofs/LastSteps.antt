-- What the last steps of a source's desk say of the calls that made them.
use Rattle.std.proofs.Common.{◌≡◌, ◌∙◌, ◌++◌, ℕ, List, [], ◌∷◌, Bool, true, Option, Some, None, Result, Ok, Err, refl, sym, ap, subst, append_assoc, inl, inr}
use Rattle.std.specs.Prelude.{IfOk, IfSome}
use Rattle.std.specs.Option.{ForSome}
use mathlib.Core.List.{IsPrefix}
use Rattle.serde_json.specs.Data.{Data}
use Rattle.ovs_authority.specs.Answers.{reply_of}
use Rattle.ovs_authority.specs.Owing.{Owing, CollectsTo}
use Rattle.ovs_authority.specs.declared.response.Response.{Response}
use Rattle.ovs_authority.specs.declared.ask.Ask.{Ask}
use Rattle.ovs_authority.specs.declared.ask.Verb.{Verb}
use Rattle.ovs_authority.specs.declared.ask.Verb.TheVariants as verbs
use Rattle.ovs_json.specs.declared.no_memory.NoMemory.{NoMemory}
use Rattle.ovs_links.specs.declared.step.Step.{Step}
use Rattle.ovs_source.specs.SourceDesk.{SourceDeskValue, owing_of}
use Rattle.ovs_views.specs.Published.{is_shown}
use Rattle.ovs_wire.specs.declared.message.Message.{Message}
use Rattle.ovs_wire.specs.declared.message.Message.TheVariants.{Request, Reply, Notice}
use Rattle.ovs_service.specs.Replies.{RepliesTo, IsAnswer}
use Rattle.ovs_recorded_source.specs.Steps.{SourceState, Does, DoesAll, begun, RecordedValue, IsStep, EndsRun, EndsWith, IsAsked, IsGiven, immediate_reply_of}
use Rattle.ovs_recorded_source.specs.Waiting.{next_standing}
use Rattle.ovs_recorded_source.specs.declared.step.SourceStep.{SourceStep}
use Rattle.ovs_recorded_source.specs.declared.step.SourceStep.TheVariants as steps
use Rattle.ovs_recorded_source.proofs.Recording.{ends_run}
use Rattle.ovs_source_node.specs.Giving.{IsCollected}

-- ---- what is known

pub ends_behind : (s : SourceStep) (known then now : List SourceStep) → IsPrefix known then → EndsWith s then now → EndsWith s known now
ends_behind s known then now first last = record {
  others = first.0 ++ last.others;
  all = last.all ∙ ap (λ (ss : List SourceStep). ss ++ s ∷ []) (ap (λ (ss : List SourceStep). ss ++ last.others) (sym first.1) ∙ append_assoc known first.0 last.others);
}

-- ---- requests

replies_to : (verb : Verb) (id : Data) (a : Response) (r : Option Message) → r ≡ immediate_reply_of verb (reply_of a id) → RepliesTo id r
replies_to (verbs.Transact operations) id a r is = subst (RepliesTo id) (sym is) tt
replies_to (verbs.Lock name) id a r is = subst (RepliesTo id) (sym is) refl
replies_to (verbs.Steal name) id a r is = subst (RepliesTo id) (sym is) refl
replies_to (verbs.Unlock name) id a r is = subst (RepliesTo id) (sym is) refl

-- what replies to a session ends a run of the desk
pub asked : (start : SourceDeskValue) (session_id : ℕ) (ask : Ask) (before after : RecordedValue) (r : Result (Option Message) NoMemory)
    → IfOk r (λ m. IsAsked (λ s. IsStep start s before after) session_id ask m) → IfOk r (λ m. IsAsked (EndsRun start) session_id ask m × RepliesTo ask.id m)
asked start session_id ask before after (Ok m) is = (
  record { reply = is.reply; link = is.link; immediate_reply = is.immediate_reply; is = ends_run start (steps.Asked session_id ask is.reply is.link) before after is.is },
  replies_to ask.verb ask.id is.is.does.answer m (is.immediate_reply ∙ ap (immediate_reply_of ask.verb) is.is.does.reply_is),
)
asked start session_id ask before after (Err e) is = tt

pub asked_ends : (session_id : ℕ) (ask : Ask) (known then now : List SourceStep) (r : Result (Option Message) NoMemory) → IsPrefix known then
    → IfOk r (λ m. IsAsked (λ s. EndsWith s then now) session_id ask m) → IfOk r (λ m. IsAsked (λ s. EndsWith s known now) session_id ask m)
asked_ends session_id ask known then now (Ok m) first is =
    record { reply = is.reply; link = is.link; immediate_reply = is.immediate_reply; is = ends_behind (steps.Asked session_id ask is.reply is.link) known then now first is.is }
asked_ends session_id ask known then now (Err e) first is = tt

-- ---- what is given

owed : (old new : Owing) (m : Message) → CollectsTo old (Some m) new → IsAnswer m
owed old new (Reply result error id) h = tt
owed old new (Notice method params) h = tt
owed old new (Request method params id) h = h

answer : (session_id : ℕ) (d e : SourceState) (m : Message) → IsGiven (λ s. Does s d e) session_id (Some m) → IsAnswer m
answer session_id d e m (inl gives) = subst IsAnswer (sym gives.is) tt
answer session_id d e m (inr collects) = owed (owing_of d.desk.locks session_id) (owing_of e.desk.locks session_id) m collects.given

does_so : (start : SourceDeskValue) (session_id : ℕ) (before after : RecordedValue) (m : Message) → IsGiven (λ s. IsStep start s before after) session_id (Some m)
    → IsGiven (λ s. Does s before.state after.state) session_id (Some m)
does_so start session_id before after m (inl is) = inl is.does
does_so start session_id before after m (inr is) = inr is.does

pub collected : (start : SourceDeskValue) (held : Bool) (session_id : ℕ) (shown_steps : List Step) (before after : RecordedValue) (o : Option Message)
    → (held ≡ true → ForSome (next_standing session_id before.state.waiting) (λ id. is_shown shown_steps id ≡ true))
    → IsGiven (λ s. IsStep start s before after) session_id o → IfSome o (λ m. IsCollected start held session_id shown_steps m × IsAnswer m)
collected start held session_id shown_steps before after None shown given = tt
collected start held session_id shown_steps before after (Some m) shown given =
    let does = does_so start session_id before after m given in (
      record { made = before.steps; state = before.state; run = made_of given; left = after.state; shown = shown; given = does },
      answer session_id before.state after.state m does,
    )
  where
    made_of : IsGiven (λ s. IsStep start s before after) session_id (Some m) → DoesAll (begun start) before.steps before.state
    made_of (inl is) = is.made
    made_of (inr is) = is.made

pub given_behind : (session_id : ℕ) (known then now : List SourceStep) (o : Option Message) → IsPrefix known then → IsGiven (λ s. EndsWith s then now) session_id o
    → IsGiven (λ s. EndsWith s known now) session_id o
given_behind session_id known then now None first ends = ends_behind (steps.Collected session_id None) known then now first ends
given_behind session_id known then now (Some m) first (inl ends) = inl (ends_behind (steps.Given session_id m) known then now first ends)
given_behind session_id known then now (Some m) first (inr ends) = inr (ends_behind (steps.Collected session_id (Some m)) known then now first ends)

pub given_some : (session_id : ℕ) (known now : List SourceStep) (o : Option Message) → IsGiven (λ s. EndsWith s known now) session_id o
    → IfSome o (λ m. IsGiven (λ s. EndsWith s known now) session_id (Some m))
given_some session_id known now None ends = tt
given_some session_id known now (Some m) ends = ends
