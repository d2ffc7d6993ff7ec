pub mod Synced
pub mod Until
