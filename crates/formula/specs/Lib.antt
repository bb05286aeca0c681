-- The root of the definitions that the contracts of formula cite, in reading order.
pub mod Classes
pub mod Grammar
pub mod Reading
pub mod Claims
pub mod Private
