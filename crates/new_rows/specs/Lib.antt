pub mod NewRow
