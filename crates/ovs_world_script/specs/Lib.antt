pub mod Words
pub mod Reading
pub mod Telling
pub mod Closing
pub mod Story
