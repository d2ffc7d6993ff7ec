pub mod Placing
pub mod Honest
pub mod Shown
