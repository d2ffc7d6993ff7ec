pub mod Dialing
pub mod Ports
