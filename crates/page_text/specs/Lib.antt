-- The root of the definitions that the contracts of page_text cite, in reading order.
pub mod Parts
pub mod Claims
pub mod Lines
