pub mod Found
pub mod Stored
pub mod Indexing
pub mod Steps
pub mod Named
