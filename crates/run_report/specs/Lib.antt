pub mod Plain
pub mod Rows
pub mod Text
pub mod Meaning
