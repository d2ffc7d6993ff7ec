pub mod Hearing
pub mod Stills
pub mod Keeps
pub mod Asking
pub mod Endings
