pub mod Replies
pub mod Texts
pub mod Asking
pub mod Deeds
pub mod Calls
pub mod Client
pub mod Kept
