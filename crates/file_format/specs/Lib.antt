pub mod Bytes
pub mod Parse
pub mod Reading
