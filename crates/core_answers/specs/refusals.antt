pub mod Asked
pub mod Rowed
