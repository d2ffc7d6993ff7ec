pub mod Records
pub mod Limits
pub mod Gather
pub mod Stream
pub mod Honest
pub mod Shown
