-- The root of the laws.
pub mod Held
pub mod Verdicts
pub mod Demand
pub mod Forms
mod Examples
mod CheckedExamples
