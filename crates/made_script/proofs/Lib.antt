pub mod Digits
pub mod Counting
pub mod Rows
