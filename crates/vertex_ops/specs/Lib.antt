pub mod Vertices
pub mod Holders
