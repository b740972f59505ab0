pub mod Forms
pub mod Few
