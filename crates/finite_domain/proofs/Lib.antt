pub mod Ways
pub mod Order
pub mod Held
pub mod RowRules
pub mod Passed
pub mod Kept
