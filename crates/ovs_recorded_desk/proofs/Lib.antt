pub mod Accounting
pub mod Closing
pub mod Recording
pub mod Sending
