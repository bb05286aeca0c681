-- The laws that belong to no one function.
pub mod LineLaws
pub mod NumberLaws
pub mod ReadBack
pub mod WriterLaws
pub mod WritingLaws
