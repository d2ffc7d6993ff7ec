pub mod Marks
pub mod Doing
pub mod Places
pub mod Lasting
pub mod Finding
