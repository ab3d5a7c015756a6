-- The words for lines that are refused.
use Rattle.std.specs.Prelude.{ℕ, List, codes}
use Rattle.ovs_script.specs.LineJson.{line_word}
use Rattle.ovs_world.specs.Refusals.{world_word}
use Rattle.ovs_world_script.specs.declared.words.EventRefusal.{EventRefusal}
use Rattle.ovs_world_script.specs.declared.words.EventRefusal.TheVariants.{BadLine, BadShape, BadId, Event}

-- why an event's line is refused
abbrev pub event_word : EventRefusal → List ℕ
event_word (BadLine fault) = line_word fault
event_word BadShape = codes "bad-shape"
event_word BadId = codes "bad-id"
event_word (Event e) = world_word e

-- the line that is all there is where it isn't said how many relays there are
abbrev pub relays_refused : List ℕ
relays_refused = codes "relays refused\n"
