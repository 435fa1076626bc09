pub mod WrittenPlan
pub mod inside
