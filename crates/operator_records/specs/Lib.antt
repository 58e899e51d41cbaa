pub mod Change
pub mod Rows
