pub mod Atoms
pub mod Rows
pub mod Alone
pub mod Notes
pub mod Memos
pub mod Joins
pub mod Cases
pub mod Steps
