pub mod OwnCalls
pub mod Stable
pub mod Cut
