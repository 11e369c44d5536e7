pub mod Faults
pub mod Files
pub mod Listed
pub mod MemShelf
pub mod MemSink
pub mod Shelf
pub mod Sink
pub mod Whole
