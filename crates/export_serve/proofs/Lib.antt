pub mod AskedLaws
pub mod Replies
pub mod KeptLaws
pub mod RowsLaws
pub mod Executing
pub mod Refused
pub mod Stepping
pub mod SpellingRows
