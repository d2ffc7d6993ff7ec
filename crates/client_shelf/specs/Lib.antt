pub mod LaneFiles
pub mod Coming
pub mod Repeats
pub mod Spelling
pub mod Busy
pub mod Learning
pub mod Unmade
