-- What may be an id.
use Rattle.std.specs.Prelude.{ℕ, Option, Some, None, Bool, if◌then◌else◌, is_some, option_and_then}
use Rattle.serde_json.specs.Data.{Data, number, unsigned}
use Rattle.serde_json.specs.Find.{as_null, as_number, as_u64}

-- the data are null
abbrev pub is_null : Data → Bool
is_null d = is_some (as_null d)

-- the data as an id, unless they are null
abbrev pub named : Data → Option Data
named d = if is_null d then None else Some d

-- the number as an id
abbrev pub id_of_number : ℕ → Data
id_of_number n = number (unsigned n)

-- the number that an id is, if it is an integer that isn't negative
abbrev pub number_of_id : Data → Option ℕ
number_of_id d = option_and_then as_u64 (as_number d)
