pub mod Answers
pub mod Goes
pub mod Talk
pub mod Senders
pub mod Places
