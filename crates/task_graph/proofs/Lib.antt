pub mod RowLemmas
pub mod PlaceLemmas
pub mod CountingLemmas
pub mod GroupLemmas
pub mod SemaphoreLemmas
pub mod ChoiceLemmas
pub mod WorkedNets
