pub mod Writing
pub mod Values
pub mod Placing
