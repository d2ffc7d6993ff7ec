pub mod Naming
pub mod Mirroring
pub mod Rowing
pub mod Moving
pub mod Resting
pub mod Growing
pub mod Leading
