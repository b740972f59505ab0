pub mod Fault
pub mod Entry
pub mod Payload
pub mod Memory
pub mod Standing
