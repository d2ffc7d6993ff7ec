pub mod CutShort
pub mod Telling
