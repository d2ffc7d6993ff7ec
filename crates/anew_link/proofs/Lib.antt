pub mod Splits
pub mod Whole
