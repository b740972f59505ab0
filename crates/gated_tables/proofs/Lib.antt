pub mod SameSchemas
