pub mod Fault
pub mod Spelling
pub mod Reading
pub mod Data
pub mod Memory
pub mod Size
pub mod Standing
