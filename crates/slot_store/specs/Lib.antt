pub mod Limit
pub mod Fault
pub mod Spelling
pub mod Reading
pub mod Data
pub mod Memory
pub mod Standing
