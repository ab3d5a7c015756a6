-- The JSON of a line.
use Rattle.std.specs.Prelude.{ℕ, List, Option, Some, None, Result, Ok, Err, codes}
use Rattle.std.specs.Option.{ok_or}
use Rattle.serde_json.specs.Data.{Data}
use Rattle.ovs_json.specs.Parts.{json_of}
use Rattle.ovs_script.specs.declared.line_json.LineFault.{LineFault}
use Rattle.ovs_script.specs.declared.line_json.LineFault.TheVariants.{TooLong, BadJson}

-- why a line has no JSON
abbrev pub line_word : LineFault → List ℕ
line_word TooLong = codes "too-long"
line_word BadJson = codes "bad-json"

-- the JSON of a line, or why it has none; None is a line above the limit
abbrev pub json_of_line : Option (List ℕ) → Result Data LineFault
json_of_line None = Err TooLong
json_of_line (Some line) = ok_or (json_of line) BadJson

-- what is made of a line's JSON, and what the lack of it is told as
abbrev pub with_json : {T E : Type 0} → (LineFault → E) → (Data → Result T E) → Result Data LineFault → Result T E
with_json lacking made (Ok json) = made json
with_json lacking made (Err fault) = Err (lacking fault)
