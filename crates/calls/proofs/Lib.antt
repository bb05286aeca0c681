-- The laws that belong to no one function, for the proofs here and in the crates above. Assumes nothing.
pub mod TallyLaws
pub mod RefusalLaws
pub mod ClaimLaws
mod Examples
