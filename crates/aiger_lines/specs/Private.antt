-- Definitions that contracts cite only for the readers above: no claim speaks of them.
pub mod Steps
