pub mod Contents
pub mod Blocks
pub mod Entries
pub mod Chains
