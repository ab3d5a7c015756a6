-- The words for why a JSON value is no datum.
use Rattle.std.specs.Prelude.{ℕ, List, codes}
use Rattle.ovs_data.specs.declared.error.DatumError.{DatumError}
use Rattle.ovs_data.specs.declared.error.DatumError.TheVariants.{WrongShape, WrongKind, NotInteger, Duplicate, WrongCount, UnknownName, NoMemory}

-- the word for a fault
abbrev pub datum_word : DatumError → List ℕ
datum_word WrongShape = codes "wrong-shape"
datum_word WrongKind = codes "wrong-kind"
datum_word NotInteger = codes "not-integer"
datum_word Duplicate = codes "duplicate"
datum_word WrongCount = codes "wrong-count"
datum_word UnknownName = codes "unknown-name"
datum_word NoMemory = codes "no-memory"
