pub mod Records
pub mod Results
pub mod Data
pub mod Says
