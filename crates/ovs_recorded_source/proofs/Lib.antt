pub mod Accounting
pub mod Holding
pub mod Keeping
pub mod Listing
pub mod Making
pub mod Recording
pub mod Sending
pub mod Taking
