pub mod Looking
pub mod VertexHere
pub mod Lines
pub mod Values
pub mod Showing
pub mod Getting
pub mod Listing
