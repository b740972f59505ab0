pub mod Stands
pub mod Worked
pub mod Reads
