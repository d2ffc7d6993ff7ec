pub mod Copied
pub mod Lasting
