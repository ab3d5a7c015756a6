pub mod LengthRule
pub mod FeedRule
pub mod Feed
