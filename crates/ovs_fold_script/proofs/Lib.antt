pub mod Orders
pub mod Passing
pub mod Written
