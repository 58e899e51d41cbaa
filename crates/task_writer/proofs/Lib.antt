pub mod Puts
pub mod PutLoops
pub mod WriteWays
pub mod Calls
pub mod Told
