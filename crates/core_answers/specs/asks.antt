pub mod PutCalls
pub mod StatCalls
pub mod Xids
pub mod SlotCalls
pub mod ReadCalls
pub mod WriteCalls
pub mod RemoveCalls
