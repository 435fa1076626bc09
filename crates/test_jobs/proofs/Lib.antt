pub mod FirstLemmas
mod NumberCrossing
