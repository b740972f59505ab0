pub mod Again
pub mod Versions
pub mod Lengths
mod Above
mod Found
mod Shapes
mod Notes
mod Faults
mod Ids
mod Finds
mod Firsts
