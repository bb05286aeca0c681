-- The root of the definitions that the contracts of packed cite, in reading order.
pub mod Runs
pub mod Format
pub mod Claims
