pub mod Conflicts
pub mod Counts
