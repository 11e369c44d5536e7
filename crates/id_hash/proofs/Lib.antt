pub mod Entries
pub mod Places
pub mod Knows
pub mod InBuckets
