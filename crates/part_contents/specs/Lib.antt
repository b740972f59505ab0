pub mod Held
pub mod Contents
pub mod Counted
