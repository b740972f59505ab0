pub mod Working
pub mod Wholes
pub mod CallEvents
pub mod Closings
pub mod Rows
pub mod Asked
pub mod Each
pub mod AsksNone
