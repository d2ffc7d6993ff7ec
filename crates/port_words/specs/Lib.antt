pub mod Texts
pub mod Portmaps
