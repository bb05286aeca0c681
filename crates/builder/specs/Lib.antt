-- The root of the definitions that the contracts of builder cite, in reading order.
pub mod Build
pub mod Claims
pub mod Private
