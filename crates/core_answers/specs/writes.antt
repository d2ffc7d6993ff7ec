pub mod Alone
pub mod Carried
pub mod Flights
pub mod Written
