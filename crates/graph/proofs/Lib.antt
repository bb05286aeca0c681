-- The laws that belong to no one function. Crates above cite those of an accepted text (AnswerLaws, HeldLaws, BitLaws,
-- WordLaws) and, to prove that a text is accepted, those of its fields, names and lines.
pub mod PieceLaws
pub mod SplitLaws
pub mod BreakLaws
pub mod LookUpLaws
pub mod NameLaws
pub mod OptionLaws
pub mod WidthFieldLaws
pub mod RecordLaws
pub mod SearchLaws
pub mod EdgeLaws
pub mod FieldLaws
pub mod EdgeLineLaws
pub mod BitLaws
pub mod MeaningLaws
pub mod WordLaws
pub mod DifferLaws
pub mod ArrayLaws
pub mod ModeLineLaws
pub mod ModeLaws
pub mod LineLaws
pub mod SymbolLaws
pub mod HeldLaws
pub mod TextLaws
pub mod ModeTextLaws
pub mod WidthTextLaws
pub mod SymbolTextLaws
pub mod TakenLaws
pub mod FormulaTextLaws
pub mod VertexTextLaws
pub mod UnseenLaws
pub mod MarkLaws
pub mod AnswerLaws
pub mod WidthAnswerLaws
pub mod ChosenLaws
mod Examples
mod WideExamples
