-- The root of the definitions that the contracts of ludopoplar cite, in reading order.
pub mod Codes
pub mod Circuits
pub mod Runs
pub mod CheckedRuns
pub mod Benches
pub mod Rates
pub mod Sessions
pub mod Pages
pub mod Graphs
pub mod FileClaims
pub mod CallClaims
pub mod Claims
pub mod Private
