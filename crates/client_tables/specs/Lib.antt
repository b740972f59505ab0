pub mod Change
pub mod Shown
pub mod Names
pub mod Transitions
pub mod Kept
pub mod Drops
pub mod Held
pub mod Plan
