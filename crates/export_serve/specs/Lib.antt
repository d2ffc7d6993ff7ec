pub mod Refusals
pub mod Asking
pub mod Spelling
pub mod Kept
pub mod Serving
