pub mod Attrs
pub mod Tables
