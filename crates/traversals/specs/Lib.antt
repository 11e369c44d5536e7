pub mod Outline
pub mod Edges
pub mod Questions
pub mod Rows
