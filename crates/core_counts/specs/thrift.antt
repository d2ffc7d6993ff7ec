pub mod KeptReads
pub mod Reads
pub mod Unkept
pub mod Writes
