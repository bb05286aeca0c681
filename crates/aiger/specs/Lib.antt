-- The root of the definitions that the contracts of aiger cite, in reading order.
pub mod Rows
pub mod Format
pub mod Write
pub mod Claims
