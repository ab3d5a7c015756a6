pub mod Calling
pub mod Connections
pub mod Slots
pub mod Totals
