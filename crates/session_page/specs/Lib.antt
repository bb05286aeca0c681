-- The root of the definitions that the contracts of session_page cite, in reading order.
pub mod LayOut
pub mod Claims
pub mod Private
