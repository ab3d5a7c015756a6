pub mod Settled
pub mod Runs
pub mod Promise
pub mod Behind
pub mod Heard
