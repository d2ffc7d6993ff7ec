pub mod Comes
pub mod Kept
