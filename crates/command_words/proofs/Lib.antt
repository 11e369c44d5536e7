mod Cuts
mod Forms
mod Listed
pub mod Meanings
mod Parses
pub mod Refusals
mod Rows
mod Rules
mod Settling
mod Sourced
mod Standing
mod Taken
mod Turns
mod Understood
