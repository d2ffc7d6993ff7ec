pub mod Lawful
pub mod Machine
pub mod Mirrors
pub mod Reaches
pub mod Settled
pub mod SmallRun
pub mod Story
