pub mod Passing
pub mod Waiting
pub mod Worked
