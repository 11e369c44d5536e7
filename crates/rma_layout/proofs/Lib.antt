pub mod Bounds
pub mod WordLemmas
pub mod PlaceLemmas
