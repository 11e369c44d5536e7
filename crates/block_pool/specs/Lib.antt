pub mod Moves
pub mod Takes
pub mod Gives
pub mod Drains
