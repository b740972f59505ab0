pub mod Filters
pub mod Firsts
pub mod Loops
pub mod Lacks
