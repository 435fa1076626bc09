-- Internal: what the calls of a step say to one another, what is under a frame's lock, and how frames begin and end.
pub mod TriedReleases
pub mod FrameBatches
pub mod ReleaseRooms
pub mod AttemptEnds
pub mod Books
pub mod LockedRuns
pub mod Openings
pub mod Overs
pub mod Around
pub mod Levels
pub mod Benches
