-- The laws that belong to no one function, for the proofs here and in the crates above. Assumes nothing.
pub mod PageLaws
pub mod BuildLaws
mod SumLaws
mod SizeLaws
pub mod LengthLaws
pub mod AnswerLaws
mod FileLaws
pub mod ProgramLaws
mod Examples
