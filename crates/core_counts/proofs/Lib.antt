pub mod Prelude
pub mod coarse
pub mod thrift
pub mod counts
