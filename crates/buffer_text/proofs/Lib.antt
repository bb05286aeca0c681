-- The root of the laws. Crates above cite SizeLaws and ClaimLaws.
mod Graph
mod BufferLaws
pub mod SizeLaws
mod TextLaws
mod CostLaws
pub mod ClaimLaws
mod Examples
mod Prose
