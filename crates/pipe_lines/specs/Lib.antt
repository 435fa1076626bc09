pub mod DeferRows
pub mod Gates
pub mod Orders
pub mod OrderRules
pub mod PassOrder
pub mod PipeNet
pub mod Pipelines
pub mod inside
