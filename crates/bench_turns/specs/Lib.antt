-- The root of the definitions, in reading order.
pub mod Parts
pub mod Numbers
pub mod Refusals
pub mod Add
pub mod Turn
pub mod Session
pub mod Answers
pub mod Claims
