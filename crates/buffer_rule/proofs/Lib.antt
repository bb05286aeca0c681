-- The laws that belong to no one function.
mod StrokesLaws
mod PageLaws
mod Examples
