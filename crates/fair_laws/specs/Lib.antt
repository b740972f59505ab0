pub mod Fair
pub mod Reached
pub mod Worlds
