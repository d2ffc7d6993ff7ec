pub mod Judged
pub mod Earliest
