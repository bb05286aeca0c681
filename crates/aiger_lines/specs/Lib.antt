-- The root of the definitions that the contracts of aiger_lines cite, in reading order.
pub mod Fields
pub mod Lines
pub mod Blocks
pub mod Heads
pub mod Private
