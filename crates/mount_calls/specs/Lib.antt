pub mod Lists
pub mod Flavors
pub mod Exports
pub mod Calls
pub mod Replies
