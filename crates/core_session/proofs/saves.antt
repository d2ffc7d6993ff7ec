pub mod Evidenced
pub mod HearingAlong
pub mod Lone
pub mod PutPaths
pub mod Puts
pub mod Taking
pub mod Told
pub mod WholeSteps
