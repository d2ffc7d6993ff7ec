pub mod Names
pub mod Laws
pub mod Written
pub mod Rows
