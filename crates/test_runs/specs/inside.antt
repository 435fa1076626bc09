-- Internal: what a run by one thread keeps to.
pub mod Tellers
