pub mod Formula
pub mod Grammar
pub mod Level
pub mod Machine
pub mod Meets
pub mod Words
