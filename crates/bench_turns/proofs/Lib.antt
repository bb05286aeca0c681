-- The root of the laws.
pub mod OwnSteps
pub mod PartLaws
pub mod QueueLaws
pub mod NumberLaws
pub mod PlaceLaws
pub mod RoundLaws
pub mod CheckLaws
pub mod CallLaws
pub mod EndLaws
pub mod SessionLaws
pub mod TestedLaws
pub mod MeansLaws
mod Examples
mod StartExamples
mod Wrong
