-- The root of the definitions that the contracts of aiger_file cite, in reading order.
pub mod Read
pub mod Claims
