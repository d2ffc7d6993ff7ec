pub mod Given
pub mod Clients
pub mod Texts
pub mod PairRuns
pub mod PairGoing
pub mod Beginnings
