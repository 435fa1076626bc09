pub mod WorkedHistories
pub mod WorkedAsyncBooks
pub mod WorkedAsyncPasses
pub mod WorkedRunJournals
pub mod WorkedDesks
pub mod WorkedDeskBooks
pub mod WorkedDeskRuns
pub mod WorkedServing
