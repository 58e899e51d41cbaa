pub mod PlanWays
pub mod PlanBytes
