-- What is told of an event.
use Rattle.std.specs.Prelude.{◌≡◌, ◌≢◌, ◌≤◌, ℕ, List, ◌++◌, Bool, true, false, Some, is_err, Result, Ok, Err, codes}
use Rattle.std.specs.Fmt.{decimal}
use Rattle.serde_json.specs.Data.{Data, depth}
use Rattle.serde_json.specs.Read.{read, max_depth}
use Rattle.serde_json.specs.Written.{has_float, compact_text}
use Rattle.ovs_script.specs.Refusal.{refused_line}
use Rattle.ovs_world.specs.Headline.{IsFaithful}
use Rattle.ovs_world.specs.Steps.{Steps}
use Rattle.ovs_world.specs.Worlds.{WorldValue}
use Rattle.ovs_world.specs.declared.error.WorldError.{WorldError}
use Rattle.ovs_world.specs.declared.error.WorldError.TheVariants.{NoMemory}
use Rattle.ovs_world.specs.declared.event.Event.{Event as Happening}
use Rattle.ovs_world.specs.declared.event.Reply.{Reply}
use Rattle.ovs_world.specs.declared.event.Reply.TheVariants.{Results, Session, Took, Dropped, Done}
use Rattle.ovs_world_script.specs.declared.words.EventRefusal.{EventRefusal}
use Rattle.ovs_world_script.specs.declared.words.EventRefusal.TheVariants.{Event}
use Rattle.ovs_world_script.specs.Words.{event_word}

-- compact JSON text of a value, which reads back as the value
pub record IsJsonText (d : Data) (text : List ℕ) : Type 0 where
  pub compact : has_float d ≡ false → text ≡ compact_text d
  pub reads : depth d ≤ max_depth → read text ≡ Some d

-- the text of a reply
abbrev pub IsReplyText : Reply → List ℕ → Type 0
IsReplyText (Results results) text = IsJsonText results text
IsReplyText (Session number) text = text ≡ codes "session " ++ decimal number
IsReplyText (Took took held) text = text ≡ codes "took " ++ (decimal took ++ (codes " held " ++ decimal held))
IsReplyText (Dropped count) text = text ≡ codes "dropped " ++ decimal count
IsReplyText Done text = text ≡ codes "ok"

-- the line that tells of event n: its reply, or the word for its refusal; want of memory isn't told
abbrev pub Tells : ℕ → Result Reply WorldError → List ℕ → Type 0
Tells n (Ok reply) line = (text : List ℕ) × IsReplyText reply text × (line ≡ decimal n ++ (codes " " ++ (text ++ codes "\n")))
Tells n (Err e) line = (e ≢ NoMemory) × (line ≡ refused_line n (event_word (Event e)))

-- The line that tells of event n where a line spells it or is refused before it happens, whether it is refused, and the
-- world then.
abbrev pub TellsLine : WorldValue → ℕ → Result Happening EventRefusal → List ℕ → Bool → WorldValue → Type 0
TellsLine w n (Ok event) line is_refused v =
    (answer : Result Reply WorldError) × Steps w event answer v × IsFaithful v.source v.relays × Tells n answer line × (is_refused ≡ is_err answer)
TellsLine w n (Err refusal) line is_refused v = (line ≡ refused_line n (event_word refusal)) × (is_refused ≡ true) × (v ≡ w)
