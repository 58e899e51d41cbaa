pub mod Outcome
pub mod Marks
