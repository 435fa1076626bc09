-- Internal: how far a start is with its units, and the turns of a rest with the semaphores that they wait for.
pub mod UnitCounts
pub mod RestTurns
