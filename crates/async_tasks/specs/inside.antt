-- Internal: what a book of tasks keeps.
pub mod Keeps
pub mod Ready
