pub mod Lawfulness
pub mod Firsts
pub mod Deciding
