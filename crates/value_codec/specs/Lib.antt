pub mod Spelling
pub mod FirstBad
pub mod Utf8
pub mod Reading
pub mod SchemaSpelling
pub mod SchemaReading
