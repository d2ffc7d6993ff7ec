pub mod Readings
pub mod Fronts
pub mod Pieces
pub mod ReadingExamples
pub mod Notes
pub mod Arrivals
pub mod SetLast
