-- What a machine keeps beside its journal, and what that says of the journal. No public clause cites it.
pub mod Waits
pub mod Kept
