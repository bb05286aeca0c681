-- The root of the definitions, in reading order.
pub mod Calls
pub mod Demand
pub mod Forms
