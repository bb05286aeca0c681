-- The laws that belong to no one function.
pub mod EachLaws
pub mod LiteralLaws
pub mod ValidLaws
pub mod LaneLaws
pub mod MeaningLaws
pub mod AigerLaws
pub mod OutlineLaws
