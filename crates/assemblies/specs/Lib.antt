pub mod Travel
pub mod Places
pub mod Gathering
pub mod Parts
