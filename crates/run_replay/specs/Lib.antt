pub mod Replays
pub mod BatchReplays
