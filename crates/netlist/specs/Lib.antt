-- The root of the definitions that the contracts of netlist cite, in reading order.
pub mod Layout
pub mod Literals
pub mod Lanes
pub mod Meaning
pub mod Valid
pub mod Aiger
