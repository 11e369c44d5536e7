pub mod Commands
pub mod Items
pub mod Matched
pub mod Names
pub mod Parsed
pub mod Sources
