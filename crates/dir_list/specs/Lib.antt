pub mod Listings
pub mod Taking
