pub mod KeptPage
pub mod Causes
