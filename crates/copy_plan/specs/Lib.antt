pub mod Lines
pub mod Files
pub mod Whole
pub mod Trees
