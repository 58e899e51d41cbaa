pub mod Table
pub mod Lending
pub mod Check
pub mod Rules
pub mod Meaning
pub mod Tree
pub mod Run
pub mod Inner
