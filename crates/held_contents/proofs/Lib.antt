pub mod Bytes
pub mod Fits
pub mod Objects
pub mod Pieces
pub mod Readings
pub mod Spellings
pub mod HeldCuts
