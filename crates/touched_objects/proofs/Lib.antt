pub mod OtherObjects
pub mod Differing
pub mod Standing
pub mod NeededBlocks
pub mod Stayed
