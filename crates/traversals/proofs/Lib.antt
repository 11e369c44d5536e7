pub mod Steps
pub mod Telling
pub mod Rows
pub mod ByLabel
pub mod Scanning
