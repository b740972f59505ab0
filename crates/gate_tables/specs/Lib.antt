pub mod Timers
pub mod Gate
pub mod Laws
