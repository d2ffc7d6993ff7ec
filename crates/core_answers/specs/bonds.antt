pub mod Kept
pub mod Ages
pub mod Had
pub mod Named
pub mod Led
pub mod Aged
