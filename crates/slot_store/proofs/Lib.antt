pub mod Again
pub mod Keys
mod Shapes
mod Parts
mod Notes
mod Faults
mod Ids
mod Finds
mod Few
