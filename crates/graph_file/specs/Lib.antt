pub mod PlanText
pub mod inside
