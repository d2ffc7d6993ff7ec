pub mod InOrder
pub mod Trees
