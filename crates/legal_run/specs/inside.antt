-- What the crate keeps beside a journal, and what that says of the journal. No public clause cites it.
pub mod Marking
pub mod Checks
pub mod Walks
