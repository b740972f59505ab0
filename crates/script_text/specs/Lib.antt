pub mod Faults
pub mod Names
pub mod Verbs
pub mod Places
pub mod Reading
pub mod Grammar
pub mod Text
pub use Rattle.script_words.specs.Words
