pub mod Buffers
pub mod Compiling
pub mod Planning
pub mod Reading
pub mod Running
