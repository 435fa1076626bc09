-- Internal: what a text is made of, and what the private functions say to one another.
pub mod SharedText
pub mod Gathering
pub mod Keeping
pub mod SortKeys
pub mod Sorting
pub mod Matching
pub mod Slots
pub mod KeySlots
pub mod Tallying
pub mod Counting
pub mod Repeating
pub mod Numbering
pub mod Cuts
pub mod Parting
pub mod KeptSoFar
pub mod FoundLine
