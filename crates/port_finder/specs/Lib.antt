pub mod Does
pub mod Talk
pub mod Replies
pub mod Found
