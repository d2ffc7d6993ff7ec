pub mod Doing
pub mod Replies
pub mod Parts
pub mod Places
pub mod Steps
pub mod Losing
pub mod Finding
