pub mod Findings
pub mod WorkedNets
pub mod WorkedJournals
