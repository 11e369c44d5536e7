pub mod Shape
pub mod Ranges
pub mod Placement
pub mod Words
