pub mod LoadGraphs
pub mod SerialIsLegal
mod Running
