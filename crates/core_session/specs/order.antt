pub mod Altering
pub mod Earlier
pub mod Sizes
