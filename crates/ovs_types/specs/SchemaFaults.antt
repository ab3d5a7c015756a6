-- Why a JSON value is no schema: which faults it has, and the order of the faults.
use Rattle.std.specs.Prelude.{◌≡◌, ◌≢◌, ◌⊎◌, ℕ, List, Bool, false, Option, Some, None, Result, codes, option_and_then}
use Rattle.serde_json.specs.Data.{Data}
use Rattle.serde_json.specs.Find.{get, as_str, as_object}
use Rattle.ovs_data.specs.declared.atom.AtomKind.{AtomKind}
use Rattle.ovs_json.specs.Members.{SomeMember}
use Rattle.ovs_types.specs.declared.schema.error.SchemaError.{SchemaError}
use Rattle.ovs_types.specs.declared.schema.error.SchemaError.TheVariants.{BadShape, BadId, Real, BadBounds, NoMemory}
use Rattle.ovs_types.specs.Names.{is_id, is_name}
use Rattle.ovs_types.specs.SchemaSpelling.{name_of, IsLeast, IsMost}

-- what reading a part of a schema gives
abbrev pub Read : Type 0 → Type 0
Read X = Result X SchemaError

-- the order of the faults
abbrev pub rank : SchemaError → ℕ
rank BadShape = 0
rank BadId = 1
rank Real = 2
rank BadBounds = 3
rank NoMemory = 4

-- the word for a fault
abbrev pub schema_word : SchemaError → List ℕ
schema_word BadShape = codes "bad-shape"
schema_word BadId = codes "bad-id"
schema_word Real = codes "real"
schema_word BadBounds = codes "bad-bounds"
schema_word NoMemory = codes "no-memory"

-- ---- the faults that a value has, wherever they stand in it

-- a part that has to be there: its absence is a fault of shape
abbrev pub InNeeded : {X : Type 0} → (SchemaError → X → Type 0) → SchemaError → Option X → Type 0
InNeeded Has e None = e ≡ BadShape
InNeeded Has e (Some x) = Has e x

-- a part that may be absent
abbrev pub InOptional : {X : Type 0} → (SchemaError → X → Type 0) → SchemaError → Option X → Type 0
InOptional Has e None = ⊥
InOptional Has e (Some x) = Has e x

-- a part that is a text, or else something other
abbrev pub InTextOr : (List ℕ → Type 0) → Type 0 → Option (List ℕ) → Type 0
InTextOr Has Other None = Other
InTextOr Has Other (Some s) = Has s

-- an <atomic-type>: "real" is a fault of its own, and no type at all one of shape
abbrev pub InKind : SchemaError → List ℕ → Type 0
InKind BadShape s = (s ≢ codes "real") × ((k : AtomKind) → s ≢ name_of k)
InKind BadId s = ⊥
InKind Real s = s ≡ codes "real"
InKind BadBounds s = ⊥
InKind NoMemory s = ⊥

-- a <base-type>: an <atomic-type>, or an object with it as its "type"
abbrev pub InBase : SchemaError → Data → Type 0
InBase e d = InTextOr (InKind e) (InNeeded (λ f t. InNeeded InKind f (as_str t)) e (get (codes "type") d)) (as_str d)

-- "min" that is no bound
abbrev pub InLeast : SchemaError → Option Data → Type 0
InLeast e o = (e ≡ BadBounds) × ((may_be_empty : Bool) → IsLeast o may_be_empty → ⊥)

-- "max" that is no bound
abbrev pub InMost : SchemaError → Option Data → Type 0
InMost e o = (e ≡ BadBounds) × ((most : Option ℕ) → IsMost o most → ⊥)

-- a <type>: an <atomic-type>, or an object with "key", "value", "min" and "max"
abbrev pub InType : SchemaError → Data → Type 0
InType e d =
    InTextOr (InKind e)
    ((InNeeded InBase e (get (codes "key") d) ⊎ InOptional InBase e (get (codes "value") d)) ⊎ (InLeast e (get (codes "min") d) ⊎ InMost e (get (codes "max") d)))
    (as_str d)

-- the name of a table or a column
abbrev pub InName : SchemaError → List ℕ → Type 0
InName e s = (e ≡ BadId) × (is_name s ≡ false)

-- a column under its name
abbrev pub InColumn : SchemaError → List ℕ → Data → Type 0
InColumn e s d = InName e s ⊎ InNeeded InType e (get (codes "type") d)

-- a table under its name
abbrev pub InTable : SchemaError → List ℕ → Data → Type 0
InTable e s d = InName e s ⊎ InNeeded (λ f. SomeMember (InColumn f)) e (option_and_then as_object (get (codes "columns") d))

-- the database's name
abbrev pub InId : SchemaError → List ℕ → Type 0
InId e s = (e ≡ BadId) × (is_id s ≡ false)

-- the value has this fault: in its name, its version, or one of its tables
abbrev pub HasFault : Data → SchemaError → Type 0
HasFault d e =
    (InNeeded InId e (option_and_then as_str (get (codes "name") d)) ⊎ InNeeded (λ f s. ⊥) e (option_and_then as_str (get (codes "version") d)))
    ⊎ InNeeded (λ f. SomeMember (InTable f)) e (option_and_then as_object (get (codes "tables") d))
