pub mod Accounts
pub mod PutBytes
pub mod Saves
