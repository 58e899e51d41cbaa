pub mod Finds
pub mod Places
pub mod Words
