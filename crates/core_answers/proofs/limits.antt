pub mod AllSent
pub mod CountOf
pub mod Unspent
