pub mod Fault
pub mod Spelling
pub mod Reading
pub mod Journal
pub mod Memory
pub mod Standing
