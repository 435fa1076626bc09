-- Internal: what the steps of the reader answer, and graphs that may stand in a file.
pub mod Reading
pub mod Reader
pub mod Fine
