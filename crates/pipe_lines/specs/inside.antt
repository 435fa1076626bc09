-- Internal: nets in the making, and how the order of tokens is found.
pub mod Building
pub mod Waiting
pub mod Walks
