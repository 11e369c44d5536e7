pub mod Chains
pub mod HeldMaps
pub mod LeavingFacts
pub mod RewriteFacts
pub mod Settling
pub mod NamedMaps
