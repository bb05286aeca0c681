-- The laws that belong to no one function, for the crates above.
pub mod PartLaws
pub mod ClaimLaws
