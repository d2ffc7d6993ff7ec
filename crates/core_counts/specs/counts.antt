pub mod Commits
pub mod Equal
pub mod Hidden
pub mod Pages
pub mod Reads
pub mod Writes
