pub mod PutRows
pub mod ManyNames
pub mod StatRows
pub mod CutRows
pub mod PutRules
pub mod LonePuts
