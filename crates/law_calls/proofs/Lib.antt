pub mod CallsWait
pub mod RepliesTell
