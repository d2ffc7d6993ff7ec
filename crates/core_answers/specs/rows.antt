pub mod SlotRows
pub mod Listed
pub mod OpenCalls
