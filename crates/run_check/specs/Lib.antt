pub mod Places
pub mod Fitting
pub mod Numbering
pub mod Ordering
pub mod Clauses
pub mod Laws
