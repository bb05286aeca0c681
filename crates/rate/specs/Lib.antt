-- The root of the definitions that the contracts of rate cite, in reading order.
pub mod Rates
pub mod Claims
