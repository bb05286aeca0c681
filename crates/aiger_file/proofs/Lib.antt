-- The laws that belong to no one function.
pub mod KeptLaws
pub mod ClaimLaws
pub mod Examples
