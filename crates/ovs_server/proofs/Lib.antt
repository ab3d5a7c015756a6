pub mod DeskParts
pub mod Sending
