pub mod Thin
pub mod Splitting
pub mod SeenLaw
