pub mod Calling
pub mod Empty
pub mod Ends
pub mod Sums
pub mod Leaving
pub mod Noted
