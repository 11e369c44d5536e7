pub mod Visits
pub mod Replaying
pub mod Judging
