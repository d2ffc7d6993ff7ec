pub mod Entries
pub mod Fronting
pub mod Rows
