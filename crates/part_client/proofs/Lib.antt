pub mod Named
pub mod Coming
pub mod Stands
pub mod Settled
pub mod Arrivals
pub mod Bringing
pub mod Keepings
pub mod Risings
