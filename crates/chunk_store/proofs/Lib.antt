pub mod Heads
pub mod Notes
mod Finds
mod Faults
mod Within
pub mod Below
