-- The root of the definitions that the contracts of aiger_order cite, in reading order.
pub mod Place
pub mod Claims
pub mod Private
