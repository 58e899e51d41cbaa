pub mod FileWays
pub mod CompileWays
