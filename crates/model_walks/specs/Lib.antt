pub mod Calls
pub mod Machine
pub mod Reaches
pub mod SmallRun
