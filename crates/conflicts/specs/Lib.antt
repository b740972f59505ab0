pub mod Fit
pub mod Stored
