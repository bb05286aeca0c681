-- The root of the definitions that the contracts of sheet_page cite, in reading order.
pub mod Sheets
pub mod Claims
pub mod Private
