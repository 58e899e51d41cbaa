pub mod Reading
pub mod Compiling
