pub mod Maps
pub mod SillyNames
pub mod Rows
