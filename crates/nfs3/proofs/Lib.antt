pub mod WrongStatuses
