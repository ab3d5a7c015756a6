pub mod UpstreamState
pub mod Deriving
pub mod Telling
pub mod Faults
pub mod UpstreamEnd
pub mod SchemaQuery
