pub mod Refusing
pub mod Calls
