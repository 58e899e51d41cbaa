pub mod Rows
pub mod Memos
pub mod Steps
