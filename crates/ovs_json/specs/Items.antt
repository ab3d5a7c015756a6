-- The items of a JSON list, in their order.
use Rattle.std.specs.Prelude.{List, [], ◌∷◌, Result, Ok}
use Rattle.serde_json.specs.Data.{Data, Items, no_items, item}
use Rattle.ovs_json.specs.Results.{◌>>=◌}

-- each item as reading one gives it, from left to right, up to the first fault
abbrev pub read_items : {X E : Type 0} → (Data → Result X E) → Items → Result (List X) E
read_items read no_items = Ok []
read_items read (item d ds) = do
  x ← read d
  xs ← read_items read ds
  Ok (x ∷ xs)

-- each item stands for the value at its place
abbrev pub SpellsEach : {X : Type 0} → (Data → X → Type 0) → Items → List X → Type 0
SpellsEach Spells no_items [] = Unit {0}
SpellsEach Spells (item d ds) (x ∷ xs) = Spells d x × SpellsEach Spells ds xs
SpellsEach Spells no_items (x ∷ xs) = ⊥
SpellsEach Spells (item d ds) [] = ⊥
