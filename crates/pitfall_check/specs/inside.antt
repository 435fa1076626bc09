-- Invariants, and relations between private functions.
pub mod PartialFindings
pub mod Steps
pub mod EndLists
pub mod MarkSpread
pub mod ReachMarks
pub mod SearchRules
pub mod SearchState
pub mod Components
