pub mod Tables
pub mod Left
pub mod Inner
