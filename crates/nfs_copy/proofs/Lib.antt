pub mod Calls
pub mod Marks
pub mod Fronts
pub mod Parts
pub mod Copies
pub mod Whole
pub mod Missing
