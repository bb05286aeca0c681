-- The laws that belong to no one function.
pub mod Answers
pub mod ByteLaws
pub mod Examples
pub mod GrammarComplete
pub mod GrammarSound
pub mod IndexLaws
pub mod NameLaws
pub mod PostfixLaws
pub mod Runs
pub mod Steps
pub mod Table
