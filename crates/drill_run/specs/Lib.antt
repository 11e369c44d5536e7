pub mod Summaries
pub mod Arcs
pub mod Drills
pub mod Told
