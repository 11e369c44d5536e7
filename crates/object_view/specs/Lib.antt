pub mod View
pub mod Change
pub mod Growth
pub mod Example
