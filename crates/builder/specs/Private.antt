-- Definitions that only contracts of private functions cite, here or in a crate above.
pub mod Adding
pub mod Terms
pub mod Machine
pub mod Edges
pub mod Monitor
