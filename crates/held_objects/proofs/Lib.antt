pub mod Knows
pub mod Held
pub mod Changes
