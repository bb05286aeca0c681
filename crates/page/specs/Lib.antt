-- The root of the definitions that the contracts of page cite, in reading order.
pub mod Pages
pub mod Private
