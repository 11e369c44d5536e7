pub mod State
pub mod Tied
pub mod Causes
pub mod Moves
pub mod Endings
pub mod Plans
pub mod Planning
pub mod Committing
