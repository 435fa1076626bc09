pub mod Folds
pub mod Chunks
pub mod ChunkWork
pub mod JobLaws
pub mod Rows
pub mod Draws
pub mod inside
