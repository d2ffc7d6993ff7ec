pub mod Giving
pub mod Files
