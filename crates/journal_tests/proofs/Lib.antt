pub mod Moves
pub mod Shaped
mod Looked
