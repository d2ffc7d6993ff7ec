pub mod Answer
pub mod Following
pub mod Story
pub mod Taken
pub mod Moment
pub mod Current
