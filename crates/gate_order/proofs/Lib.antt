-- The root of the laws.
pub mod LooseLaws
pub mod PlacingLaws
pub mod OrderLaws
pub mod MeaningLaws
pub mod RenumberedLaws
mod Examples
