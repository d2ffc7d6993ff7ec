pub mod Promised
pub mod Ends
