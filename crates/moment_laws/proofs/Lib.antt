pub mod Kept
pub mod Landing
pub mod Moving
pub mod Along
pub mod Events
pub mod Stays
