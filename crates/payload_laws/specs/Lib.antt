pub mod Subs
pub mod Entries
