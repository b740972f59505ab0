pub mod Place
pub mod Ring
pub mod Owners
