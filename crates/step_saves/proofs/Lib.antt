pub mod AccountSteps
pub mod Accounting
pub mod Going
pub mod Pieces
pub mod Places
pub mod PutSteps
pub mod Staying
pub mod Taking
