-- Internal: the places that an index keeps.
pub mod Marks
