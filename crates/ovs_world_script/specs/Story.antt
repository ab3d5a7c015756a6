-- What the script `world` writes for a text.
use Rattle.std.specs.Prelude.{◌≡◌, ◌-◌, ℕ, List, [], Bool, true, false, not, ◌&&◌, ◌||◌, nat_lt, nat_le, if◌then◌else◌, Option, Some, None, Result, Ok, Err}
use Rattle.ovs_types.specs.Schema.{SchemaValue}
use Rattle.ovs_world.specs.Worlds.{WorldValue, new_world}
use Rattle.ovs_wire.specs.Counted.{Counting}
use Rattle.ovs_script.specs.declared.run_end.RunEnd.{RunEnd}
use Rattle.ovs_script.specs.Counts.{CountsRun}
use Rattle.ovs_script.specs.Rules.{Rules}
use Rattle.ovs_script.specs.Texts.{Texts, IsOutput, IsOutputSoFar}
use Rattle.ovs_script.specs.declared.line_json.LineFault.TheVariants.{BadJson}
use Rattle.ovs_script.specs.declared.refusal.SchemaRefusal.{SchemaRefusal}
use Rattle.ovs_script.specs.declared.refusal.SchemaRefusal.TheVariants.{BadLine}
use Rattle.ovs_script.specs.FirstLine.{schema_of_line}
use Rattle.ovs_script.specs.Refusal.{schema_line, schema_answer}
use Rattle.ovs_world_script.specs.declared.story.ScriptStage.{ScriptStage}
use Rattle.ovs_world_script.specs.declared.story.ScriptStage.TheVariants.{Schema, Relays, Events, Over}
use Rattle.ovs_world_script.specs.declared.story.Story.{Story}
use Rattle.ovs_world_script.specs.Words.{relays_refused}
use Rattle.ovs_world_script.specs.Reading.{relays_of_line, event_of_line}
use Rattle.ovs_world_script.specs.Telling.{TellsLine}
use Rattle.ovs_world_script.specs.Closing.{last_lines}

-- ---- the first two lines

abbrev pub stage_after_schema : Result SchemaValue SchemaRefusal → ScriptStage
stage_after_schema (Ok schema) = Relays schema
stage_after_schema (Err refusal) = Over

-- one to nine
abbrev pub is_count : ℕ → Bool
is_count n = nat_lt 0 n && nat_le n 9

-- a world of so many relays, if it may have so many
abbrev pub world_of : SchemaValue → Option ℕ → Option WorldValue
world_of schema None = None
world_of schema (Some n) = if is_count n then Some (new_world schema n) else None

abbrev pub stage_after_relays : Option WorldValue → ScriptStage
stage_after_relays (Some w) = Events w
stage_after_relays None = Over

abbrev pub relays_answer : Option WorldValue → List ℕ
relays_answer (Some w) = []
relays_answer None = relays_refused

-- ---- the rules

abbrev pub story_at : ScriptStage → Bool → Story
story_at stage refused = record { stage = stage; refused = refused }

-- what may be said to line n, and what comes then; the schema is line 0 and the number of relays line 1, and the events count from 1
abbrev pub AnswersAt : ScriptStage → Bool → ℕ → Option (List ℕ) → List ℕ → Story → Type 0
AnswersAt Schema refused n line said t = (said ≡ schema_answer (schema_of_line line)) × (t ≡ story_at (stage_after_schema (schema_of_line line)) refused)
AnswersAt (Relays schema) refused n line said t =
    (said ≡ relays_answer (world_of schema (relays_of_line line))) × (t ≡ story_at (stage_after_relays (world_of schema (relays_of_line line))) refused)
AnswersAt (Events w) refused n line said t = (v : WorldValue) × (is_refused : Bool)
    × TellsLine w (n - 1) (event_of_line line) said is_refused v × (t ≡ story_at (Events v) (refused || is_refused))
AnswersAt Over refused n line said t = (said ≡ []) × (t ≡ story_at Over refused)

abbrev pub is_over_at : ScriptStage → Bool
is_over_at Schema = false
is_over_at (Relays schema) = false
is_over_at (Events w) = false
is_over_at Over = true

-- the last words; no first line at all is a refused schema, and no second one a refused number of relays
abbrev pub closing_at : ScriptStage → List ℕ
closing_at Schema = schema_line (BadLine BadJson)
closing_at (Relays schema) = relays_refused
closing_at (Events w) = last_lines w
closing_at Over = []

-- there is a world, and no line was refused
abbrev pub is_content_at : ScriptStage → Bool → Bool
is_content_at Schema refused = false
is_content_at (Relays schema) refused = false
is_content_at (Events w) refused = not refused
is_content_at Over refused = false

abbrev pub story_rules : Rules Story
story_rules = record {
  Answers = λ s n line said t. AnswersAt s.stage s.refused n line said t;
  BeginsSecond = λ s t. t ≡ s;
  is_over = λ s. is_over_at s.stage;
  Closes = λ s words is_content. (words ≡ closing_at s.stage) × (is_content ≡ is_content_at s.stage s.refused);
}

abbrev pub beginning : Story
beginning = story_at Schema false

-- ---- a text

-- a text, and no second one
abbrev pub alone : List ℕ → Texts
alone text = record { input = text; second = None }

-- all that is written for a text, and whether nothing of it was refused
abbrev pub IsTold : List ℕ → List ℕ → Bool → Type 0
IsTold text output is_content = IsOutput story_rules beginning (alone text) output is_content

-- what is written for some first lines of a text, or all that is written for it
abbrev pub IsToldSoFar : List ℕ → List ℕ → Type 0
IsToldSoFar text output = IsOutputSoFar story_rules beginning (alone text) output

-- what a run counts whose only devices are a reader and a writer
abbrev pub CountsAlone : {R W : Type 0} → Counting R → Counting R → Counting W → Counting W → RunEnd → Type 0
CountsAlone {R} reader reader' writer writer' end = CountsRun {M = R} reader reader' None None writer writer' end
