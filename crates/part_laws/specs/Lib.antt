pub mod Lengths
pub mod Gathers
pub mod Answers
pub mod Completed
pub mod Arrived
pub mod Rows
pub mod RowsOnce
