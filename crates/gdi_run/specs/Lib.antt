pub mod Commands
pub mod Reading
pub mod Statuses
pub mod Answer
