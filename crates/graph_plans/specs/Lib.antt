pub mod Operations
pub mod ModuleUses
pub mod PlanEdges
pub mod PlanRows
pub mod Sources
