pub mod Steps
pub mod Marks
pub mod Flat
pub mod Filling
pub mod Naming
pub mod Reached
