pub mod Entries
pub mod Index
pub mod Tagged
