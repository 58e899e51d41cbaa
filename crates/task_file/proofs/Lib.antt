pub mod Ways
pub mod FieldLoop
pub mod Loops
pub mod TwinRows
pub mod StateWays
pub mod FillWays
pub mod ReadWays
