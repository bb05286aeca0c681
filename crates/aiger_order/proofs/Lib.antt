-- The laws that belong to no one function.
mod LimitLaws
mod NewsLaws
mod OrderLaws
mod StoreLaws
mod PlaceLaws
pub mod ClaimLaws
