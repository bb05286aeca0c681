-- The laws that belong to no one function, for the proofs here and in the crates above. Assumes nothing.
pub mod BuildLaws
pub mod EndLaws
mod JudgedLaws
mod ClaimLaws
