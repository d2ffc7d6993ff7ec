pub mod Headlines
pub mod Whole
