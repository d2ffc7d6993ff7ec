pub mod Numbers
pub mod Rows
pub mod Stable
pub mod Verdicts
