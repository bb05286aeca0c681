-- The root of the laws.
pub mod ListLaws
pub mod TerminalLaws
pub mod SinceLaws
pub mod CountLaws
pub mod PathLaws
pub mod VoidLaws
pub mod AlikeLaws
mod Examples
mod CheckedExamples
