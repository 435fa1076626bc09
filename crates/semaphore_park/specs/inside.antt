-- Internal: the invariant of what is parked.
pub mod Waiting
