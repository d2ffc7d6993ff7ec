pub mod Fronts
pub mod Creds
pub mod Written
pub mod CallLaws
pub mod ReplyLaws
pub mod Rows
