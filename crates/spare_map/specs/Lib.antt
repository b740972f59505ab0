pub mod Late
pub mod Values
