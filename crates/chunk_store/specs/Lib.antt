pub mod Fault
pub mod Payload
pub mod Index
pub mod Standing
