pub mod Loads
pub mod Held
pub mod Leaves
pub mod Rewrites
pub mod Stores
pub mod Noted
