pub mod HasText
pub mod Shown
pub mod Rounds
