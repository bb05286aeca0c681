-- The root of the definitions that the contracts of judge cite, in reading order.
pub mod Judge
pub mod Claims
pub mod Private
