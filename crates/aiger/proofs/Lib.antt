-- The laws that belong to no one function.
pub mod RowLaws
pub mod WriteLaws
pub mod LengthLaws
pub mod FormatLaws
pub mod ClaimLaws
pub mod Examples
