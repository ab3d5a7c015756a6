pub mod Made
pub mod Relayed
pub mod Said
