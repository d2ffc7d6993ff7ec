pub mod Disk
pub mod Slots
pub mod Pages
pub mod Store
pub mod Rounds
pub mod Labels
pub mod Faults
pub mod MemDisk
