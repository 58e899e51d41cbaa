-- Definitions that the contracts of printing cite.
pub mod Lines
pub mod Printing
pub mod Inner
