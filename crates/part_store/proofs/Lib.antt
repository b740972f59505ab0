pub mod Finds
pub mod Views
pub mod Settling
