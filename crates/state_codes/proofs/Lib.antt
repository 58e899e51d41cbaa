pub mod Bits
pub mod Coding
pub mod Masking
pub mod Meaning
pub mod States
