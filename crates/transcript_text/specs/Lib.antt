pub mod Text
pub mod OneForm
