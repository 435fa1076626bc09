-- Internal: the rules of the count word and of the deques, and what private functions say to one another.
pub mod Counts
pub mod ListNames
pub mod ListParts
