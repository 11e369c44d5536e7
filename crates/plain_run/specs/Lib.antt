pub mod Given
pub mod Loading
pub mod Running
pub mod Reading
