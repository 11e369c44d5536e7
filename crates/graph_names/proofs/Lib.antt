pub mod NamesChanged
pub mod NameCalls
