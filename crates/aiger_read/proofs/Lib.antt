-- The laws that belong to no one function.
pub mod RowLaws
pub mod PassLaws
pub mod TextLaws
pub mod GateLaws
pub mod BodyLaws
pub mod SoundLaws
pub mod FileLaws
pub mod ReadLaws
pub mod CompleteLaws
pub mod ClaimLaws
pub mod Examples
