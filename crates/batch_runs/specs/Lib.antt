pub mod Stops
pub mod Parts
pub mod Reading
pub mod Runs
pub mod Running
pub mod Opening
