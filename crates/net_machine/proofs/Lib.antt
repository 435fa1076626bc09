pub mod WaitingLemmas
pub mod Keeping
pub mod Readying
