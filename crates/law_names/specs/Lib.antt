pub mod Feeds
pub mod Kept
