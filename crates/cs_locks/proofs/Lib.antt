pub mod Counts
pub mod PlanHolds
