-- The laws that belong to no one function.
pub mod PrintableLaws
mod FieldLaws
mod CellLaws
mod EndLaws
pub mod ClaimLaws
mod ExactLaws
mod Examples
