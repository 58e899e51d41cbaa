pub mod Running
pub mod Refusing
pub mod Calls
