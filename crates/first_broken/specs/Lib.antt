-- The root of the definitions that the contracts of first_broken cite, in reading order.
pub mod Refusals
pub mod Places
pub mod Claims
