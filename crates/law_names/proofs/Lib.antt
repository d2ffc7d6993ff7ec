pub mod KeptNames
pub mod TrueNames
