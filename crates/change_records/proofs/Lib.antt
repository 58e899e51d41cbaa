pub mod Keeping
pub mod Acting
