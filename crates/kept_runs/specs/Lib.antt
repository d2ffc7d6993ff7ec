pub mod Stored
pub mod KeptRuns
