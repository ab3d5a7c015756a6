-- The members of a JSON object, in the order of their names.
use Rattle.std.specs.Prelude.{◌≡◌, ◌⊎◌, ℕ, List, [], ◌∷◌, Result, Ok}
use Rattle.serde_json.specs.Data.{Data, Members, no_members, member}
use Rattle.ovs_json.specs.Results.{◌>>=◌}

-- member after member is read, each on what those before it gave, up to the first fault
abbrev pub read_each : {S E : Type 0} → (S → List ℕ → Data → Result S E) → S → Members → Result S E
read_each read so_far no_members = Ok so_far
read_each read so_far (member name d ms) = read so_far name d >>= λ next. read_each read next ms

-- the members lead, one step each, from what was before them to what is after them
abbrev pub Lead : {S : Type 0} → (S → List ℕ → Data → S → Type 0) → S → Members → S → Type 0
Lead Step before no_members after = after ≡ before
Lead {S} Step before (member name d ms) after = (next : S) × Step before name d next × Lead Step next ms after

-- some member has it
abbrev pub SomeMember : (List ℕ → Data → Type 0) → Members → Type 0
SomeMember Has no_members = ⊥
SomeMember Has (member name d ms) = Has name d ⊎ SomeMember Has ms

-- each member stands for the value at its place
abbrev pub EachSpells : {X : Type 0} → (List ℕ → Data → X → Type 0) → Members → List X → Type 0
EachSpells Spells no_members [] = Unit {0}
EachSpells Spells no_members (x ∷ xs) = ⊥
EachSpells Spells (member name d ms) [] = ⊥
EachSpells Spells (member name d ms) (x ∷ xs) = Spells name d x × EachSpells Spells ms xs
