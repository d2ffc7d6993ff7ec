pub mod Attributes
pub mod Transfer
pub mod FileSystem
pub mod Calls
pub mod Replies
