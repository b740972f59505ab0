pub mod Standing
pub mod Shapes
