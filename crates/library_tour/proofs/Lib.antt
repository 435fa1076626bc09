pub mod SumCrossing
pub mod SumLemmas
