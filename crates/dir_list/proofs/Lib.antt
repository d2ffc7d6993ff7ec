pub mod Takings
pub mod Sorted
pub mod Rows
