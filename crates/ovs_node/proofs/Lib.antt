pub mod Fates
pub mod Takings
pub mod Dropping
pub mod Begins
pub mod Sent
pub mod Fresh
pub mod Ends
