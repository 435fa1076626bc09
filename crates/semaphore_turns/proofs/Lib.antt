pub mod UnitCounts
pub mod HeldLists
pub mod RestLists
pub mod ParkedTurns
pub mod YardReleases
pub mod Crossing
