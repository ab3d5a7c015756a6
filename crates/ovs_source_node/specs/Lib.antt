pub mod Giving
pub mod Learning
pub mod NoneTaken
pub mod Reporting
pub mod Sent
