-- What a schema is.
use Rattle.serde_json.specs.Data.{Data}
use Rattle.ovs_types.specs.declared.schema.Description.{Description}

-- what it says, and the JSON that says it
pub record SchemaValue : Type 0 where
  pub description : Description
  pub json : Data
