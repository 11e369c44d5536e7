pub mod State
pub mod Sound
pub mod Calls
pub mod Refusals
pub mod Map
pub mod Ledger
pub mod Plain
pub mod Works
