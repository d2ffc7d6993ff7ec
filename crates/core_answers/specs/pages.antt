pub mod Kept
pub mod True
pub mod Passing
pub mod Read
pub mod Held
