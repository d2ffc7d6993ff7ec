pub mod Askings
pub mod Givings
pub mod Nexts
pub mod Texts
