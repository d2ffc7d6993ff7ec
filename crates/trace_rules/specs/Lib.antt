pub mod Decided
pub mod Freshness
pub mod Keeping
pub mod Soundness
pub mod Restarting
pub mod Beginnings
