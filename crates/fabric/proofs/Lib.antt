pub mod Calls
pub mod SeatCalls
pub mod RightsKept
pub mod SparesJoined
pub mod Written
pub mod MarkedPairs
