pub mod Gathered
pub mod Held
pub mod Weighing
pub mod Calls
pub mod Keeping
pub mod Asking
