pub mod AnswerExamples
pub mod CallExamples
pub mod OldWrites
pub mod OperationExamples
pub mod PutExamples
pub mod PutReads
pub mod ReadExamples
pub mod ThriftExamples
