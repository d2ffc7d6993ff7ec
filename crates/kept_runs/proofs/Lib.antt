pub mod StoredPages
pub mod Rounds
pub mod KeptRuns
pub mod Anewed
