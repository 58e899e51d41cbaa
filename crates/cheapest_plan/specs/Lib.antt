pub mod Cheapest
pub mod Order
pub mod Planned
pub mod Inner
