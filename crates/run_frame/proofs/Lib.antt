pub mod WorkedRuns
pub mod EndsLemmas
pub mod WorkedLegal
pub mod ChosenLemmas
pub mod FineLemmas
