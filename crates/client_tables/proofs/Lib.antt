mod NameSets
mod Numbering
mod KnownNames
