-- The root of the laws.
pub mod Fits
pub mod Tokens
pub mod Walk
pub mod Monitor
pub mod Lanes
pub mod Alive
pub mod Good
pub mod Formulas
pub mod Circuit
pub mod Edges
pub mod CheckedGood
pub mod Count
pub mod Joins
pub mod AlikeGates
pub mod CheckedGates
pub mod CheckedCount
pub mod Weave
pub mod Link
pub mod Places
pub mod Machine
pub mod Order
pub mod CheckedOrder
pub mod Netlist
mod Examples
mod CheckedExamples
