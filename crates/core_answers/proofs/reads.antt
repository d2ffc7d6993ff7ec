pub mod Passed
pub mod ReadsFrom
