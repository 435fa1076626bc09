pub mod Crossing
mod Totals
pub mod Steps
