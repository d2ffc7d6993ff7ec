pub mod Hidden
pub mod Removed
