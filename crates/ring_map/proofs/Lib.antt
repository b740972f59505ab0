mod Places
mod Rings
mod Owners
pub mod Computed
