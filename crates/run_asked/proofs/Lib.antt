pub mod Promising
pub mod Ending
pub mod Words
