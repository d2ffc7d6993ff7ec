pub mod Dials
pub mod Sendings
