pub mod Evidence
pub mod PutsWritten
