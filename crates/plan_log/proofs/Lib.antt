pub mod PlanCodecs
pub mod Again
pub mod Journals
mod Notes
mod Shapes
mod Faults
mod Lengths
