pub mod Places
pub mod Kept
pub mod Walks
pub mod Laws
