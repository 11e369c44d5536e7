pub mod Marking
pub mod Trying
pub mod Weighing
pub mod Shortage
pub mod Finding
pub mod Keeping
pub mod Beginning
pub mod Counts
