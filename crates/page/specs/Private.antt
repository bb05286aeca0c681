-- Definitions that only contracts of private functions cite, here or in a crate above.
pub mod Files
pub mod Putting
