mod Rows
mod Runs
mod Working
mod Finishing
mod Starting
pub mod Keeping
mod Making
pub mod Beginning
pub mod Crossing
pub mod Counting
