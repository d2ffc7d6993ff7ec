pub mod Along
pub mod Asked
pub mod Endings
