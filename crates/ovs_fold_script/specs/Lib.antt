pub mod Words
pub mod Reading
pub mod Intake
pub mod Closing
pub mod Stores
pub mod Folding
