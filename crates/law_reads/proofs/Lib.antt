pub mod Bytes
pub mod KeptBytes
