pub mod Evident
pub mod Lone
pub mod Settling
pub mod Synced
