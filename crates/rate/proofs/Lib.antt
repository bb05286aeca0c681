-- The laws that belong to no one function.
pub mod RateLaws
mod Examples
