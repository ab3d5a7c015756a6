pub mod Accounts
pub mod Nobody
pub mod Steps
pub mod Taking
pub mod Waiting
