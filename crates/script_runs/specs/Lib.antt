pub mod Readings
pub mod Streams
pub mod Run
pub mod Ends
pub mod LaneRuns
pub mod Stock
pub mod Scripts
