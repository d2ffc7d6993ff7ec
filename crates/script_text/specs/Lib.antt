pub mod Lines
pub mod Numbers
pub mod Payloads
pub mod Paths
pub mod Digits
pub mod Plain
