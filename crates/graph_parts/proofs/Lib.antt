pub mod OrderedMaps
pub mod Weights
pub mod Props
pub mod Tallies
pub mod Rows
