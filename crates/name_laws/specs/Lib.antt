pub mod Worked
pub mod Owners
