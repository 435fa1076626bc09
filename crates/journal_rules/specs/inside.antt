-- What is counted of a journal, and what that says of the journal. No promise of the layers above cites it.
pub mod Tells
pub mod Reached
pub mod Over
pub mod Rounds
pub mod Units
pub mod Releases
pub mod Counted
