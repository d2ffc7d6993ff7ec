pub mod OfferedPage
pub mod TruePages
