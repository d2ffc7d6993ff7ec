pub mod Calls
pub mod Promises
