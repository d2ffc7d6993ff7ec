pub mod Auth
pub mod Cred
pub mod Call
pub mod Reply
