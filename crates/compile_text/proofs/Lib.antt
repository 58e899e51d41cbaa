pub mod Looks
pub mod Cut
pub mod PrintWays
pub mod CompileWays
pub mod TextWays
