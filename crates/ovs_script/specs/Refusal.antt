-- How a refused line is told.
use Rattle.std.specs.Prelude.{ℕ, List, [], ◌++◌, Result, Ok, Err, codes}
use Rattle.std.specs.Fmt.{decimal}
use Rattle.ovs_types.specs.Schema.{SchemaValue}
use Rattle.ovs_types.specs.SchemaFaults as schemas
use Rattle.ovs_script.specs.declared.refusal.SchemaRefusal.{SchemaRefusal}
use Rattle.ovs_script.specs.declared.refusal.SchemaRefusal.TheVariants.{BadLine, BadSchema}
use Rattle.ovs_script.specs.LineJson.{line_word}

-- the line that tells, with this word, that line n is refused
abbrev pub refused_line : ℕ → List ℕ → List ℕ
refused_line n word = decimal n ++ (codes " refused " ++ (word ++ codes "\n"))

-- ---- the first line

-- why a schema's line is refused
abbrev pub schema_word : SchemaRefusal → List ℕ
schema_word (BadLine fault) = line_word fault
schema_word (BadSchema fault) = schemas.schema_word fault

-- the line that is all there is of a refused schema
abbrev pub schema_line : SchemaRefusal → List ℕ
schema_line refusal = codes "schema refused " ++ (schema_word refusal ++ codes "\n")

-- what is said of a schema's line: nothing where it gives a schema
abbrev pub schema_answer : Result SchemaValue SchemaRefusal → List ℕ
schema_answer (Ok schema) = []
schema_answer (Err refusal) = schema_line refusal
