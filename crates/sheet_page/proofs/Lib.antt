-- The laws that belong to no one function, for the proofs here and in the crate above. Assumes nothing.
mod NameLaws
mod LaidLaws
mod JudgedLaws
mod SheetLaws
mod LengthLaws
mod MeanLaws
pub mod ProgramLaws
mod Examples
