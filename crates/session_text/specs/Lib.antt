-- The root of the definitions that session_text has, in reading order.
pub mod Fields
pub mod Pages
pub mod Claims
