pub mod CompileWays
