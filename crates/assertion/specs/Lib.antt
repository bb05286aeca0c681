-- The root of the definitions, in reading order.
pub mod Lists
pub mod Graph
pub mod Paths
