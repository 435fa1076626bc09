mod ChangedLemmas
pub mod Crossing
mod EnteredLemmas
mod EnteringLemmas
mod FoundLemmas
mod LeavingLemmas
mod NumberLemmas
mod SeatingLemmas
mod ToldLemmas
mod WorkLemmas
mod WorkedCrews
