pub mod Removed
pub mod Opened
pub mod Outcomes
pub mod Refusals
pub mod Rooms
pub mod Complete
