-- Ids: numbers of 128 bits, written as the text of a UUID (RFC 7047 section 5.1).
use Rattle.std.specs.Prelude.{ℕ, List, Option, option_map}
use Rattle.std.specs.Int.{w128, from_be_bytes, to_be_bytes}
use Rattle.uuid.specs.Text.{parsed_hyphenated, hyphenated_text, lower}

-- the number that a text stands for: 36 characters, digits in either case
abbrev pub read_id : List ℕ → Option ℕ
read_id text = option_map (from_be_bytes w128) (parsed_hyphenated text)

-- the text of a number, in lower case
abbrev pub id_text : ℕ → List ℕ
id_text id = hyphenated_text lower (to_be_bytes w128 id)
