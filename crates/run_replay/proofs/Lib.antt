pub mod BatchReplaying
pub mod Replaying
