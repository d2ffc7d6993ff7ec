pub mod Faults
pub mod Commands
pub mod Asked
pub mod Script
pub mod RefusalText
pub mod DoneText
