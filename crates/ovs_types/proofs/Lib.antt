pub mod SchemaLaws
pub mod SchemaFaulty
pub mod Finders
