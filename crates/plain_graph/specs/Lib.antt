pub mod Ending
pub mod Rooms
pub mod Touching
pub mod Trials
pub mod Seen
pub mod Used
pub mod Counted
