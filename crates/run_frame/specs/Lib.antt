pub mod Meaning
pub mod Runs
pub mod WorkRule
pub mod NestedRule
pub mod Legal
pub mod Rows
pub mod LastEnds
pub mod inside
