pub mod Numbers
pub mod Turns
pub mod Found
pub mod Reading
