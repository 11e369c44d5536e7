pub mod Lines
pub mod Spelling
pub mod Numbers
pub mod Forms
pub mod Awaited
pub mod Words
