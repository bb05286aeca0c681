-- The laws that belong to no one function. Crates above cite WriteLaws.
pub mod WriteLaws
mod EndLaws
mod Examples
