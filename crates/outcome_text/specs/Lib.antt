pub mod Outputs
pub mod Runs
pub mod Told
pub mod WrongLine
pub mod Reading
pub mod OldOutputs
