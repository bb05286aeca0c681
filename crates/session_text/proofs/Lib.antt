-- The root of the laws.
pub mod FieldLaws
pub mod PieceLaws
pub mod RejectedLaws
pub mod TitleLaws
pub mod CellLaws
pub mod LastLaws
pub mod PageLaws
pub mod TellLaws
pub mod ExactLaws
mod Examples
