-- What the lines of the script `world` say behind the schema's: how many relays there are, and events.
use Rattle.std.specs.Prelude.{ℕ, List, Option, Some, None, Result, Ok, Err, if◌then◌else◌, codes, option_map, option_and_then}
use Rattle.std.specs.Option.{ok_or}
use Rattle.serde_json.specs.Data.{Data}
use Rattle.serde_json.specs.Find.{as_str, as_array, as_number, as_u64}
use Rattle.ovs_wire.specs.Reading.{list_of}
use Rattle.ovs_json.specs.Parts.{json_of, is_word, two_items, three_items}
use Rattle.ovs_json.specs.Results.{◌>>=◌}
use Rattle.ovs_types.specs.Id.{read_id}
use Rattle.ovs_script.specs.LineJson.{json_of_line, with_json}
use Rattle.ovs_world.specs.declared.event.Event.{Event}
use Rattle.ovs_world.specs.declared.event.Event.TheVariants.{Commit, Trim, Connect, Deliver, Cut, Restart, MergeFrom, Prune, Read}
use Rattle.ovs_world_script.specs.declared.words.EventRefusal.{EventRefusal}
use Rattle.ovs_world_script.specs.declared.words.EventRefusal.TheVariants.{BadLine, BadShape, BadId}

-- a whole number from 0 on
abbrev pub number_of : Data → Option ℕ
number_of d = option_and_then as_u64 (as_number d)

-- ---- the second line

-- how many relays a line asks for, if it is a number
abbrev pub relays_of_line : Option (List ℕ) → Option ℕ
relays_of_line None = None
relays_of_line (Some line) = option_and_then number_of (json_of line)

-- ---- an event's line

-- two numbers
abbrev pub numbers_of : Data → Data → Result (ℕ × ℕ) EventRefusal
numbers_of a b = do
  m ← ok_or (number_of a) BadShape
  n ← ok_or (number_of b) BadShape
  Ok (m, n)

-- the operations that an array holds
abbrev pub operations_of : Data → Option (List Data)
operations_of d = option_map list_of (as_array d)

-- an id and operations
abbrev pub commit_of : Data → Data → Result Event EventRefusal
commit_of a b = do
  text ← ok_or (as_str a) BadShape
  operations ← ok_or (operations_of b) BadShape
  id ← ok_or (read_id text) BadId
  Ok (Commit id operations)

-- a node and operations
abbrev pub read_of : Data → Data → Result Event EventRefusal
read_of a b = do
  node ← ok_or (number_of a) BadShape
  operations ← ok_or (operations_of b) BadShape
  Ok (Read node operations)

-- an id
abbrev pub trim_of : Data → Result Event EventRefusal
trim_of d = do
  text ← ok_or (as_str d) BadShape
  id ← ok_or (read_id text) BadId
  Ok (Trim id)

-- a name and one number
abbrev pub event_of_number : Data × Data → Result Event EventRefusal
event_of_number p = do
  number ← ok_or (number_of p.1) BadShape
  if is_word (codes "cut") p.0 then Ok (Cut number)
      else if is_word (codes "restart") p.0 then Ok (Restart number)
      else if is_word (codes "prune") p.0 then Ok (Prune number)
      else Err BadShape

-- a name and one value
abbrev pub event_of_two : Data × Data → Result Event EventRefusal
event_of_two p = if is_word (codes "trim") p.0 then trim_of p.1 else event_of_number p

-- a name and two numbers
abbrev pub event_of_numbers : Data → Data → Data → Result Event EventRefusal
event_of_numbers name a b = do
  p ← numbers_of a b
  if is_word (codes "connect") name then Ok (Connect p.0 p.1)
      else if is_word (codes "deliver") name then Ok (Deliver p.0 p.1)
      else if is_word (codes "merge") name then Ok (MergeFrom p.0 p.1)
      else Err BadShape

-- a name and two values
abbrev pub event_of_three : Data × Data × Data → Result Event EventRefusal
event_of_three p =
    if is_word (codes "commit") p.0 then commit_of p.1 p.2
    else if is_word (codes "read") p.0 then read_of p.1 p.2
    else event_of_numbers p.0 p.1 p.2

-- an array of two, or of three
abbrev pub event_of_parts : Option (Data × Data) → Option (Data × Data × Data) → Result Event EventRefusal
event_of_parts (Some p) three = event_of_two p
event_of_parts None (Some p) = event_of_three p
event_of_parts None None = Err BadShape

abbrev pub event_of_json : Data → Result Event EventRefusal
event_of_json d = event_of_parts (two_items d) (three_items d)

-- the event that a line spells, or why it is refused before it happens; None is a line above the limit
abbrev pub event_of_line : Option (List ℕ) → Result Event EventRefusal
event_of_line line = with_json BadLine event_of_json (json_of_line line)
