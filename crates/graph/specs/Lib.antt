-- The root of the definitions that the contracts of graph cite, in reading order.
pub mod Pieces
pub mod Records
pub mod Reading
pub mod Meaning
pub mod Held
pub mod Claims
pub mod ModeClaims
pub mod WidthClaims
pub mod FormulaClaims
pub mod Private
