-- Parts of JSON values.
use Rattle.std.specs.Prelude.{ℕ, List, [], ◌∷◌, Bool, true, false, Option, Some, None, option_and_then, nat_eq, if◌then◌else◌}
use Rattle.std.specs.Cmp.Lexicographic.{pointwise}
use Rattle.std.specs.Str.{is_utf8}
use Rattle.serde_json.specs.Data.{Data, object, no_members, Items, no_items, item}
use Rattle.serde_json.specs.Find.{as_str, as_array}
use Rattle.serde_json.specs.Read.{read}

-- what bytes say, where they are UTF-8 and JSON
abbrev pub json_of : List ℕ → Option Data
json_of bytes = if is_utf8 bytes then read bytes else None

-- whether an optional text is this one
abbrev pub is_text : List ℕ → Option (List ℕ) → Bool
is_text word None = false
is_text word (Some s) = pointwise nat_eq s word

-- whether a value is this text
abbrev pub is_word : List ℕ → Data → Bool
is_word word d = is_text word (as_str d)

-- the first of some items
abbrev pub first_item : Items → Option Data
first_item no_items = None
first_item (item d ds) = Some d

-- both of two items
abbrev pub two_of : Items → Option (Data × Data)
two_of no_items = None
two_of (item d no_items) = None
two_of (item d (item e no_items)) = Some (d, e)
two_of (item d (item e (item f ds))) = None

-- all of three items
abbrev pub three_of : Items → Option (Data × Data × Data)
three_of no_items = None
three_of (item d no_items) = None
three_of (item d (item e no_items)) = None
three_of (item d (item e (item f no_items))) = Some (d, e, f)
three_of (item d (item e (item f (item g ds)))) = None

-- both of two
abbrev pub both_of : {X : Type 0} → List X → Option (X × X)
both_of [] = None
both_of (x ∷ []) = None
both_of (x ∷ y ∷ []) = Some (x, y)
both_of (x ∷ y ∷ z ∷ xs) = None

-- all of three
abbrev pub all_three_of : {X : Type 0} → List X → Option (X × X × X)
all_three_of [] = None
all_three_of (x ∷ []) = None
all_three_of (x ∷ y ∷ []) = None
all_three_of (x ∷ y ∷ z ∷ []) = Some (x, y, z)
all_three_of (x ∷ y ∷ z ∷ w ∷ xs) = None

-- whether there is a value and it is this text
abbrev pub is_first : List ℕ → Option Data → Bool
is_first word None = false
is_first word (Some d) = is_word word d

-- whether a value is a list that begins with this text
abbrev pub begins_with : List ℕ → Data → Bool
begins_with word d = is_first word (option_and_then first_item (as_array d))

-- the two items of a list of two
abbrev pub two_items : Data → Option (Data × Data)
two_items d = option_and_then two_of (as_array d)

-- the three items of a list of three
abbrev pub three_items : Data → Option (Data × Data × Data)
three_items d = option_and_then three_of (as_array d)

-- whether a value is the object without members
abbrev pub is_empty_object : Data → Bool
is_empty_object (object no_members) = true
is_empty_object d = false

-- the second item of a list of two whose first is this text
abbrev pub under : List ℕ → Data → Option Data
under word d = option_and_then (λ p. if is_word word p.0 then Some p.1 else None) (two_items d)

-- the list under a word, as in ["set", [..]]
abbrev pub list_under : List ℕ → Data → Option Items
list_under word d = option_and_then as_array (under word d)
