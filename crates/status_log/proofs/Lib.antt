mod Twelves
mod Fields
pub mod Again
mod Steps
mod Faults
mod Held
