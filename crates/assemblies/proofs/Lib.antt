pub mod Listing
pub mod Search
pub mod Slots
pub mod Joins
pub mod Lengths
pub mod Mixes
