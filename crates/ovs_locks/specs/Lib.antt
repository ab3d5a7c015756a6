pub mod ByName
pub mod BySession
pub mod Lock
pub mod LockTable
pub mod Notices
