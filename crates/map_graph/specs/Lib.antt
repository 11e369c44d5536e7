pub mod Plain
pub mod Lines
pub mod Noted
pub mod Named
