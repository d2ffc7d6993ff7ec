pub mod Tests
pub mod Ends
pub mod Sendings
pub mod Calling
pub mod Filing
