pub mod Cuts
pub mod Countings
pub mod Distinct
pub mod Flats
