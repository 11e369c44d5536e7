pub mod Law
pub mod Reach
pub mod Calls
