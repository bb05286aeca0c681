-- The root of the definitions of gate_order, in reading order.
pub mod Loose
pub mod Order
pub mod Meaning
pub mod Placing
pub mod Renumbered
