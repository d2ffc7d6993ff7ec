pub mod Orders
pub mod Learning
pub mod Turning
pub mod Entries
pub mod Rows
