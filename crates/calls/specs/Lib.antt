-- The root of the definitions that the contracts of calls cite, in reading order.
pub mod Tallies
pub mod Refusals
pub mod Claims
