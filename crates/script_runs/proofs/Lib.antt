pub mod Readings
pub mod StreamLaws
pub mod LaneRuns
pub mod Runs
pub mod Finishing
