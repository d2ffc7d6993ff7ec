pub mod Decimals
pub mod Roots
pub mod Single
pub mod Ranges
