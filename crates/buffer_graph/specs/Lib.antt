-- The root of the definitions that the contracts of buffer_graph cite.
pub mod Write
