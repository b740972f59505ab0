pub mod View
pub mod Gathered
pub mod Weighing
pub mod Calls
