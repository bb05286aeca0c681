-- The root of the definitions that the contracts of trace cite, in reading order.
pub mod Traces
pub mod Verdicts
pub mod Claims
