pub mod Asking
pub mod Running
pub mod Runs
pub mod Statuses
