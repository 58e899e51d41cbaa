pub mod LayWays
pub mod RunWays
pub mod RunBytes
pub mod Sizes
