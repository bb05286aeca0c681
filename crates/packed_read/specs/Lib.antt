-- The root of the definitions that the contracts of packed_read cite, in reading order.
pub mod Runs
pub mod Lines
pub mod Files
pub mod Read
pub mod Claims
pub mod Private
