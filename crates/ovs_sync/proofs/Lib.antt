pub mod Prefixes
pub mod Adding
pub mod Changed
pub mod Values
pub mod Moves
