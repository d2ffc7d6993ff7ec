pub mod Stepped
pub mod Mirrored
pub mod Traced
