pub mod MovesKept
pub mod TriesKept
pub mod SparesTaken
pub mod GivesKept
pub mod Walks
pub mod Drained
pub mod ForUse
