-- What a desk gives to a session that was shown where the first answer stands.
use Rattle.std.proofs.Common.{◌≡◌, ◌∙◌, ℕ, Bool, true, List, Option, Some, None, ap}
use Rattle.std.specs.Prelude.{IfSome, option_map}
use Rattle.std.specs.Option.{ForSome}
use Rattle.ovs_authority.specs.Owing.{Owing, CollectsTo}
use Rattle.ovs_desk.specs.Ledger.{standing_of}
use Rattle.ovs_desk.specs.RelayDesk.{RelayValue, owing_of}
use Rattle.ovs_desk.specs.ShownRuns.{IsShownFirst}
use Rattle.ovs_desk.specs.declared.forwarded.Forwarded.{Forwarded}
use Rattle.ovs_links.specs.declared.step.Step.{Step}
use Rattle.ovs_service.specs.Replies.{IsAnswer}
use Rattle.ovs_views.specs.Published.{is_shown}
use Rattle.ovs_wire.specs.declared.message.Message.{Message}
use Rattle.ovs_wire.specs.declared.message.Message.TheVariants.{Request, Reply, Notice}
use Rattle.ovs_recorded_desk.specs.Steps.{IsStep, RecordedValue}
use Rattle.ovs_recorded_desk.specs.declared.step.DeskStep.{DeskStep}
use Rattle.ovs_recorded_desk.specs.declared.step.DeskStep.TheVariants as steps
use Rattle.ovs_node_threads.specs.Collecting.{IsCollected}

answer : (old new : Owing) (m : Message) → CollectsTo old (Some m) new → IsAnswer m
answer old new (Reply result error id) h = tt
answer old new (Notice method params) h = tt
answer old new (Request method params id) h = h

-- where the standing of the first is shown, the first is shown
pub first_shown : (steps : List Step) (first : Option Forwarded) (standing : Option ℕ) → standing ≡ option_map standing_of first
    → ForSome standing (λ id. is_shown steps id ≡ true) → ForSome first (λ e. is_shown steps (standing_of e) ≡ true)
first_shown steps first standing same shown = λ e is. shown (standing_of e) (same ∙ ap (λ (o : Option Forwarded). option_map standing_of o) is)

pub collected : (database : List ℕ) (made : List DeskStep) (held : Bool) (session_id : ℕ) (shown_steps : List Step) (d : RelayValue) (after : RecordedValue) (o : Option Message)
    → (held ≡ true → IsShownFirst session_id (is_shown shown_steps) d.forwards.ledger)
    → CollectsTo (owing_of d session_id) o (owing_of after.desk session_id) → IsStep database (steps.Collected session_id o) (record { steps = made; desk = d }) after
    → IfSome o (λ m. IsCollected database held session_id shown_steps m × IsAnswer m)
collected database made held session_id shown_steps d after None shown given does = tt
collected database made held session_id shown_steps d after (Some m) shown given does =
    (record { made = made; desk = d; run = does.made; left = after.desk; shown = shown; collects = does.does }, answer (owing_of d session_id) (owing_of after.desk session_id) m given)
