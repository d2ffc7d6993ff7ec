pub mod Answering
pub mod Downloads
pub mod Fetches
