pub mod Calls
pub mod Constraint
pub mod Names
pub mod Texts
