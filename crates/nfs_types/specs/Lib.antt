pub mod Held
pub mod Names
pub mod Fields
pub mod Spells
pub mod Stamps
