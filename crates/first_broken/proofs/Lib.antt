-- The laws that belong to no one function.
mod RefusalLaws
mod LineLaws
mod PlaceLaws
pub mod ClaimLaws
mod ExactLaws
mod Examples
