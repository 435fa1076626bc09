-- Internal: what a net and its builder keep beside the rows, and what the functions of this crate say to one another.
pub mod Side
pub mod Groups
pub mod EdgeIndex
pub mod NetState
pub mod BuilderState
pub mod KeyCounts
pub mod Choices
