-- The root of the definitions that the contracts of simulator cite, in reading order.
pub mod Start
pub mod Step
pub mod Run
pub mod Claims
