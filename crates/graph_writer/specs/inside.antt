-- Internal: what the writer needs of a plan.
pub mod Writer
