pub mod Offers
pub mod KeptRounds
