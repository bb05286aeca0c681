-- The root of the definitions that the contracts of text cite.
pub mod Quoted
pub mod Lines
pub mod Numbers
pub mod Writer
