pub mod Kept
pub mod OwnRead
