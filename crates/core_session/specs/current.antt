pub mod Seen
pub mod Read
pub mod Recent
pub mod Own
pub mod Steady
