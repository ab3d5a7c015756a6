-- What JSON spells as a message (JSON-RPC 1.0; RFC 7047 section 4).
use Rattle.std.specs.Prelude.{◌≡◌, ◌≢◌, ◌⊎◌, ◌≤◌, ℕ, List, length, Option, Some, None, Result, Ok, Err, codes, IsSome, IsUtf8}
use Rattle.serde_json.specs.Data.{Data, null, string, array, object, no_members, member, depth}
use Rattle.serde_json.specs.Find.{get}
use Rattle.serde_json.specs.Read.{read, max_depth}
use Rattle.serde_json.specs.View.{items_of}
use Rattle.ovs_wire.specs.Limits.{most_nesting}
use Rattle.ovs_wire.specs.Frames.{IsBalanced, IsNested}
use Rattle.ovs_wire.specs.declared.error.MessageError.{MessageError}
use Rattle.ovs_wire.specs.declared.error.MessageError.TheVariants.{NotJson, BadShape, NoMemory}
use Rattle.ovs_wire.specs.declared.message.Message.{Message}
use Rattle.ovs_wire.specs.declared.message.Message.TheVariants.{Request, Reply, Notice}

-- an absent member counts as null
abbrev pub or_null : Option Data → Data
or_null None = null
or_null (Some d) = d

-- the member of this name, null where it is absent
abbrev pub member_or_null : List ℕ → Data → Data
member_or_null name d = or_null (get name d)

-- "method" is this string, and "params" this array
abbrev pub Calls : Data → List ℕ → List Data → Type 0
Calls d method params = (get (codes "method") d ≡ Some (string method))
    × (get (codes "params") d ≡ Some (array (items_of params)))

-- the JSON spells the message; its other members are ignored
abbrev pub Spells : Data → Message → Type 0
Spells d (Request method params id) = Calls d method params × (member_or_null (codes "id") d ≡ id) × (id ≢ null)
Spells d (Notice method params) = Calls d method params × (member_or_null (codes "id") d ≡ null)
Spells d (Reply result error id) =
    (get (codes "method") d ≡ None) × (IsSome (get (codes "result") d) ⊎ IsSome (get (codes "error") d))
    × (member_or_null (codes "result") d ≡ result) × (member_or_null (codes "error") d ≡ error)
    × (member_or_null (codes "id") d ≡ id) × (id ≢ null)

-- the bytes are JSON text of these data, in UTF-8
abbrev pub IsText : List ℕ → Data → Type 0
IsText bytes d = IsUtf8 bytes × (read bytes ≡ Some d)

-- the bytes are JSON text that spells the message
abbrev pub Says : List ℕ → Message → Type 0
Says bytes m = (d : Data) × IsText bytes d × Spells d m

-- what a read of the bytes may answer
abbrev pub Reads : List ℕ → Result Message MessageError → Type 0
Reads bytes (Ok m) = Says bytes m
Reads bytes (Err NotJson) = (d : Data) → IsText bytes d → ⊥
Reads bytes (Err BadShape) = (d : Data) × IsText bytes d × ((m : Message) → Spells d m → ⊥)
Reads bytes (Err NoMemory) = Unit {0}

-- the message as JSON
abbrev pub json : Message → Data
json (Request method params id) = object (member (codes "id") id
    (member (codes "method") (string method) (member (codes "params") (array (items_of params)) no_members)))
json (Notice method params) = object (member (codes "id") null
    (member (codes "method") (string method) (member (codes "params") (array (items_of params)) no_members)))
json (Reply result error id) = object (member (codes "error") error
    (member (codes "id") id (member (codes "result") result no_members)))

-- what is written for the message: balanced text in UTF-8, as deep as its JSON, that says it where that is read
pub record IsWritten (m : Message) (bytes : List ℕ) : Type 0 where
  pub utf8 : IsUtf8 bytes
  pub balanced : IsBalanced bytes
  pub nested : IsNested bytes (depth (json m))
  pub says : depth (json m) ≤ max_depth → Says bytes m

-- what is written for the message, where that is within the limits: so deep, and `most` bytes
pub record IsSent (most : ℕ) (m : Message) (bytes : List ℕ) : Type 0 where
  pub written : IsWritten m bytes
  pub nests : depth (json m) ≤ most_nesting
  pub fits : length bytes ≤ most

-- where there is memory, a read of the bytes gives the message
abbrev pub ReadsBack : Message → List ℕ → Type 0
ReadsBack m bytes = (answer : Result Message MessageError) → Reads bytes answer
    → (answer ≡ Ok m) ⊎ (answer ≡ Err NoMemory)
