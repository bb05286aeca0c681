-- The laws that belong to no one function. Crates above cite GraphLaws and DemandLaws.
mod AddingLaws
mod TermLaws
mod AlikeLaws
mod FormulaLaws
mod EdgeLaws
mod BuildLaws
mod LayoutLaws
pub mod GraphLaws
mod CountLaws
mod EndLaws
pub mod DemandLaws
