pub mod Whole
pub mod Holds
pub mod Moves
pub mod Worked
