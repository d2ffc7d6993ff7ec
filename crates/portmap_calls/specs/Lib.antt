pub mod Mappings
pub mod Ports
