pub mod Allowance
pub mod Places
