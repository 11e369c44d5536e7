pub mod OrderedEntries
pub mod Indexed
pub mod EdgeMaps
