-- The root of the definitions that the contracts of buffer_rule cite.
pub mod Page
