-- What the last step of a relay's desk says of the call that made it.
use Rattle.std.proofs.Common.{◌∙◌, ◌++◌, ◌∷◌, [], ℕ, List, Option, Some, None, Result, Ok, Err, ap, sym, append_assoc}
use Rattle.std.specs.Prelude.{IfOk, IfSome}
use mathlib.Core.List.{IsPrefix}
use Rattle.serde_json.specs.Data.{Data}
use Rattle.ovs_authority.specs.Owing.{Owing, AsksTo}
use Rattle.ovs_authority.specs.declared.ask.Ask.{Ask}
use Rattle.ovs_desk.specs.RelayDesk.{owing_of}
use Rattle.ovs_json.specs.declared.no_memory.NoMemory.{NoMemory}
use Rattle.ovs_recorded_desk.specs.Steps.{IsStep, EndsRun, EndsWith, RecordedValue}
use Rattle.ovs_recorded_desk.specs.declared.step.DeskStep.{DeskStep}
use Rattle.ovs_recorded_desk.specs.declared.step.DeskStep.TheVariants as steps
use Rattle.ovs_recorded_desk.proofs.Recording.{ends_run}
use Rattle.ovs_service.specs.Replies.{RepliesTo}
use Rattle.ovs_wire.specs.declared.message.Message.{Message}
use Rattle.ovs_wire.specs.declared.message.Message.TheVariants.{Request, Reply, Notice}

replies_to : (old new : Owing) (id : Data) (r : Option Message) → AsksTo old id r new → RepliesTo id r
replies_to old new id None h = tt
replies_to old new id (Some (Reply result error replied)) h = h.0
replies_to old new id (Some (Request method params asked)) h = h
replies_to old new id (Some (Notice method params)) h = h

-- what replies to a session ends a run of the desk
pub asked : (database : List ℕ) (session_id : ℕ) (ask : Ask) (before after : RecordedValue) (r : Result (Option Message) NoMemory)
    → IfOk r (λ m. AsksTo (owing_of before.desk session_id) ask.id m (owing_of after.desk session_id)) → IfOk r (λ m. IsStep database (steps.Asked session_id ask m) before after)
    → IfOk r (λ m. EndsRun database (steps.Asked session_id ask m) × RepliesTo ask.id m)
asked database session_id ask before after (Ok m) replied is =
    (ends_run database (steps.Asked session_id ask m) before after is, replies_to (owing_of before.desk session_id) (owing_of after.desk session_id) ask.id m replied)
asked database session_id ask before after (Err x) replied is = tt

-- a message that is given is
pub given : (session_id : ℕ) (known now : List DeskStep) (o : Option Message) → EndsWith (steps.Collected session_id o) known now
    → IfSome o (λ m. EndsWith (steps.Collected session_id (Some m)) known now)
given session_id known now None ends = tt
given session_id known now (Some m) ends = ends

-- a step that stands last behind what was known later does so behind what was known before
pub ends_behind : (s : DeskStep) (known then now : List DeskStep) → IsPrefix known then → EndsWith s then now → EndsWith s known now
ends_behind s known then now first last = record {
  others = first.0 ++ last.others;
  all = last.all ∙ ap (λ (ss : List DeskStep). ss ++ s ∷ []) (ap (λ (ss : List DeskStep). ss ++ last.others) (sym first.1) ∙ append_assoc known first.0 last.others);
}
