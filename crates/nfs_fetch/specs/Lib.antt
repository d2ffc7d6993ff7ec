pub mod Calls
pub mod Fetched
