pub mod Decided
pub mod Derived
pub mod Faults
pub mod Passed
pub mod OneLink
