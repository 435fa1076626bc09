mod Named
mod Items
pub mod Steps
