-- The laws that belong to no one function.
pub mod RunLaws
pub mod FormatLaws
pub mod LengthLaws
pub mod LongestLaws
pub mod ClaimLaws
pub mod Examples
