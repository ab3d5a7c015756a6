pub mod Alone
pub mod Lines
