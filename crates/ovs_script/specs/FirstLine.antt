-- What a script's first line says.
use Rattle.std.specs.Prelude.{ℕ, List, Option, Result, Ok, Err}
use Rattle.serde_json.specs.Data.{Data}
use Rattle.ovs_types.specs.Schema.{SchemaValue}
use Rattle.ovs_types.specs.SchemaReading.{read_description}
use Rattle.ovs_types.specs.declared.schema.Description.{Description}
use Rattle.ovs_types.specs.declared.schema.error.SchemaError.{SchemaError}
use Rattle.ovs_script.specs.declared.refusal.SchemaRefusal.{SchemaRefusal}
use Rattle.ovs_script.specs.declared.refusal.SchemaRefusal.TheVariants.{BadLine, BadSchema}
use Rattle.ovs_script.specs.LineJson.{json_of_line, with_json}

-- the schema of a JSON value, by what its reading gives
abbrev pub schema_with : Data → Result Description SchemaError → Result SchemaValue SchemaRefusal
schema_with d (Ok description) = Ok (record { description = description; json = d })
schema_with d (Err fault) = Err (BadSchema fault)

abbrev pub schema_of_json : Data → Result SchemaValue SchemaRefusal
schema_of_json d = schema_with d (read_description d)

-- the schema that a line gives, or why it is refused; None is a line above the limit
abbrev pub schema_of_line : Option (List ℕ) → Result SchemaValue SchemaRefusal
schema_of_line line = with_json BadLine schema_of_json (json_of_line line)
