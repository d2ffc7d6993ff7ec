pub mod Files
pub mod Closes
pub mod Names
pub mod Steps
pub mod Numbered
pub mod Spelt
