pub mod Uploads
pub mod Nexts
