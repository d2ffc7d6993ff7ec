pub mod RawLines
pub mod Kept
pub mod Pieces
pub mod Lining
pub mod Batching
pub mod TextLines
