-- Objects as compact JSON text, member by member.
use Rattle.std.specs.Prelude.{ℕ, List, [], ◌∷◌, ◌++◌, Bool, true}
use Rattle.serde_json.specs.Data.{Data, string}
use Rattle.serde_json.specs.Written.{comma_if, compact_text}

-- a name and its colon, behind a comma where a member stands before
abbrev pub name_text : Bool → List ℕ → List ℕ
name_text later name = comma_if later ++ (compact_text (string name) ++ 58 ∷ [])

abbrev pub member_text : Bool → List ℕ × Data → List ℕ
member_text later m = name_text later m.0 ++ compact_text m.1

-- these members one after the other, and the brace that closes the object
abbrev pub listed_text : Bool → List (List ℕ × Data) → List ℕ
listed_text later [] = 125 ∷ []
listed_text later (m ∷ ms) = member_text later m ++ listed_text true ms
