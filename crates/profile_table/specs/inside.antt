-- Internal: what the private functions say of rows.
pub mod Counting
