pub mod Along
pub mod Origins
pub mod Sendings
pub mod Outcomes
pub mod Takings
pub mod Exchanges
pub mod Replies
pub mod Phases
