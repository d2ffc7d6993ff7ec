pub mod Agreeing
pub mod Moments
pub mod Sides
pub mod Wholes
