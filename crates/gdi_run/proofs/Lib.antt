pub mod Unread
pub mod Ended
pub mod OneCommand
pub mod Answered
