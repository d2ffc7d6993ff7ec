pub mod Readings
pub mod Sayings
pub mod Lasts
pub mod Rows
