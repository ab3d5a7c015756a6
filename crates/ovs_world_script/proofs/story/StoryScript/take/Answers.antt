use Rattle.std.proofs.Common.{refl, ap, ap₂, ◌∙◌, string_bytes}
use Rattle.ovs_world_script.specs.declared.story.Story.{Story}
use Rattle.ovs_world_script.specs.Story.{story_at}
use Rattle.ovs_world_script.proofs.story.StoryScript.take.Goals.{in-Schema+in_ok-hear_schema-in-Schema, in-Relays+in_ok-stage-in-Relays}
use Rattle.ovs_world_script.proofs.story.StoryScript.take.Goals as goal

pub returns-in-Events : goal.returns-in-Events
returns-in-Events c =
    let answer = c.in_ok-answer-in-Events.answer in
    record {
      answers = rw c.in-Events.is (
        c.answer_line.new.world,
        answer.is_refused,
        rw c.saturating_sub.ensures at c.in_ok-answer-in-Events.ensures.tells,
        refl,
      );
    }

pub returns : goal.returns
returns c =
    elim c.match-self.branch [
      | in-Schema+in_ok-hear_schema-in-Schema w ↦ record {
        answers = rw w.in-Schema.is (
          ap (λ p. string_bytes p.1) w.stage-is ∙ w.in_ok-hear_schema-in-Schema.ensures.text,
          ap₂ story_at (ap (λ p. p.0) w.stage-is ∙ w.in_ok-hear_schema-in-Schema.ensures.stage) (ap (λ (f : Story). f.refused) w.self-is),
        );
      }
      | in-Relays+in_ok-stage-in-Relays w ↦ record {
        answers = rw w.in-Relays.is (
          ap (λ p. string_bytes p.1) w.stage-is ∙ w.in_ok-stage-in-Relays.ensures.text,
          ap₂ story_at (ap (λ p. p.0) w.stage-is ∙ w.in_ok-stage-in-Relays.ensures.stage) (ap (λ (f : Story). f.refused) w.self-is),
        );
      }
    ]
