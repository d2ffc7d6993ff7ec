pub mod Headline
pub mod Shown
pub mod Run
pub mod KeptHeadline
pub mod KeptPages
