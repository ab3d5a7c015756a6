-- JSON values put together.
use Rattle.std.specs.Prelude.{ℕ, List, codes}
use Rattle.serde_json.specs.Data.{Data, string, array, object, Items, no_items, item, no_members, member}

-- a list of two values
abbrev pub two : Data → Data → Data
two d e = array (item d (item e no_items))

-- a list under a word: ["set", [..]], ["map", [..]]
abbrev pub listed : List ℕ → Items → Data
listed word ds = two (string word) (array ds)

-- an object of one member
abbrev pub under_name : List ℕ → Data → Data
under_name name d = object (member name d no_members)

-- what a refusal is told as: {"error": TEXT}
abbrev pub error_json : List ℕ → Data
error_json text = under_name (codes "error") (string text)
