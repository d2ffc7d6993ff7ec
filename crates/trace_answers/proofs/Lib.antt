pub mod Deciding
pub mod Ending
pub mod Sendings
pub mod Callings
pub mod Files
