pub mod Steps
pub mod Found
pub mod FaultOrder
pub mod Given
pub mod SameLemmas
