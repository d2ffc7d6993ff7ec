pub mod Bytes
pub mod Pages
pub mod Slots
pub mod Ends
pub mod Sorted
pub mod Full
pub mod Sound
pub mod Unmade
