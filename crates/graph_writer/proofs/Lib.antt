pub mod WritingLemmas
pub mod SettledNets
pub mod WrittenLemmas
pub mod TripLemmas
pub mod WritableLemmas
