-- The root of the definitions that the contracts of dearest_graph cite.
pub mod Write
