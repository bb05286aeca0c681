-- The laws that belong to no one function, for the proofs here and in the crates above. Assumes nothing.
pub mod CycleLaws
pub mod StartLaws
pub mod StepLaws
pub mod RunLaws
pub mod RunTrace
pub mod RunSteps
pub mod RunMeaning
pub mod VerdictLaws
mod Examples
