-- The laws that belong to no one function.
pub mod LineLaws
pub mod LimitLaws
pub mod RowLaws
pub mod NumeralLaws
pub mod PlaceLaws
pub mod FieldLaws
pub mod HeadLaws
pub mod TextLaws
pub mod StoreLaws
pub mod PassLaws
pub mod ReadLaws
pub mod RunLaws
pub mod LayoutLaws
pub mod NetLaws
