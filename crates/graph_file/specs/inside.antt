-- Internal: what the reader's steps answer, and what sets and maps know of names.
pub mod Reader
pub mod Drafts
pub mod Lookups
pub mod UseNets
pub mod Counting
