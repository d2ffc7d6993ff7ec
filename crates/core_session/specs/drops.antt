pub mod Dropped
pub mod Guarded
pub mod LaneSteps
pub mod Told
