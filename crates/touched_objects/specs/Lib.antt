pub mod Touched
pub mod Weights
pub mod Needed
pub mod FromSteps
