-- The root of the definitions, in reading order.
pub mod Text
pub mod Claims
