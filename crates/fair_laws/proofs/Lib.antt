pub mod Fairness
pub mod Stores
pub mod Hosting
pub mod Calling
pub mod Declaring
pub mod Events
pub mod Worlds
