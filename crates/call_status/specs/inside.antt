-- Internal: what the private functions say to one another.
pub mod Amongs
