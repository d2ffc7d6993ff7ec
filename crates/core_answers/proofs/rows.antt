pub mod Valued
pub mod SlotValues
pub mod WholeRows
pub mod ListStory
pub mod OpenAsks
