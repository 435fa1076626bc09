-- Internal: what the books of a desk keep.
pub mod Keeps
pub mod KeepsRuns
pub mod Looks
