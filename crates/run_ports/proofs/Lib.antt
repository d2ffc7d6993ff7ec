pub mod Rows
pub mod Walks
pub mod Options
pub mod Lines
pub mod Commands
pub mod Running
pub mod Fitting
