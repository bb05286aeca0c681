-- The root of the definitions, in reading order.
pub mod Gates
pub mod Build
pub mod Checked
pub mod Numbers
pub mod Count
pub mod Claims
