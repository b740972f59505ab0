pub mod Lists
mod Repairs
mod Behind
mod Found
mod Quiet
mod Openings
mod Spots
pub mod Uppers
pub mod Renewals
mod Blanks
mod Noting
pub mod Stayings
pub mod Rooms
pub mod Devices
