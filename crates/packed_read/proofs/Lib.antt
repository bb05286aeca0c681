-- The laws that belong to no one function.
pub mod ByteLaws
pub mod RunLaws
pub mod GateLaws
pub mod PassLaws
pub mod ReadLaws
pub mod TextLaws
pub mod BodyLaws
pub mod SoundLaws
pub mod CompleteLaws
pub mod ClaimLaws
pub mod Examples
