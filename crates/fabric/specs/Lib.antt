pub mod Window
pub mod Joins
pub mod MarkedPairs
